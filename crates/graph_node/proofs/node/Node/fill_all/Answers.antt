use Rattle.std.specs.Prelude.{slice_get, Some}
use Rattle.std.proofs.Common.{◌≡◌, ◌≢◌, inl, inr, ℕ, subst, sym, ◌∙◌, ap, arith, Ok, rules, ◌≤◌}
use Rattle.std.proofs.lemmas.Option.{slice_get_within}
use Rattle.graph_node.proofs.LoopLemmas.{ok_same}
use Rattle.graph_node.proofs.NodeLemmas.{step_trans, cores_trans, is_or_not}
use Rattle.graph_node.proofs.node.Node.fill_all.Goals as goal
use Rattle.graph_node.proofs.node.Node.fill_all.Goals.{then-branch, else-branch}

pub loop-i-preserved : goal.loop-i-preserved
loop-i-preserved g c = record {
  fit = c.fill_one.ensures.fit;
  step = step_trans g.F.Filter.pads g.F.Filter.rest g.F.Filter.closes g.F.Filter.over _ _ _ c.loop-i.invariant.step c.fill_one.ensures.step;
  moved = λ m. elim (c.if-branch.branch) [
    | then-branch w ↦ (let up = c.in_ok-fill_one.ensures.moved (ap Ok w.if-branch.true) in omega (arith, c.loop-i.invariant.step.grows, up))
    | else-branch w ↦ (let up = c.loop-i.invariant.moved (sym w.moved-is ∙ m) in omega (arith, up, c.fill_one.ensures.step.grows))
  ];
  still = λ m. elim (c.if-branch.branch) [
    | then-branch w ↦ absurd (let e = sym w.moved-is ∙ m in cc)
    | else-branch w ↦ cores_trans _ _ _ (c.loop-i.invariant.still (sym w.moved-is ∙ m)) (c.in_ok-fill_one.ensures.still (ap Ok w.if-branch.false))
  ];
  done = λ m j r l h. elim (c.if-branch.branch) [
    | then-branch w ↦ absurd (let e = sym w.moved-is ∙ m in cc)
    | else-branch w ↦ elim (is_or_not c.loop-i.i j) [
      | inl e ↦ c.in_ok-fill_one.ensures.done (ap Ok w.if-branch.false) r (c.loop-i.invariant.rest c.loop-i.i (omega arith) ∙ subst (λ (k : ℕ). slice_get c.args.self.now.ins.items k ≡ Some r) e h)
      | inr n ↦ c.loop-i.invariant.done (sym w.moved-is ∙ m) j r (let d : j ≢ c.loop-i.i = n in omega (arith, l, d)) h
    ]
  ];
  rest = λ j l. c.fill_one.ensures.others j (λ e. omega (arith, l, e)) ∙ c.loop-i.invariant.rest j (omega (arith, l));
  outs = c.fill_one.ensures.outs ∙ c.loop-i.invariant.outs;
}

pub returns-clause-done : goal.returns-clause-done
returns-clause-done g c e i r h =
    let f = c.requires.fit in
    let l = slice_get_within c.args.self.now.ins.items i r h in
    let n : c.args.self.now.inputs ≤ c.loop-i.i = search rules in
    c.loop-i.invariant.done (ok_same _ _ e) i r (omega (arith, l, n, f.ins_len)) h
