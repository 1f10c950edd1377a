use Rattle.std.specs.Prelude.{slice_get, Some}
use Rattle.std.proofs.Common.{◌≡◌, ◌≢◌, inl, inr, ℕ, subst, sym, ◌∙◌, ap, arith, Ok}
use Rattle.graph_node.proofs.NodeLemmas.{step_trans, cores_trans, is_or_not}
use Rattle.graph_node.proofs.node.Node.flush_all.Goals as goal
use Rattle.graph_node.proofs.node.Node.flush_all.Goals.{then-branch, else-branch}

pub loop-i-preserved : goal.loop-i-preserved
loop-i-preserved g c = record {
  fit = c.flush_one.ensures.fit;
  step = step_trans g.F.Filter.pads g.F.Filter.rest g.F.Filter.closes g.F.Filter.over _ _ _ c.loop-i.invariant.step c.flush_one.ensures.step;
  given = λ o. c.flush_one.ensures.given o ∙ c.loop-i.invariant.given o;
  moved = λ m. elim (c.if-branch.branch) [
    | then-branch w ↦ (let up = c.in_ok-flush_one.ensures.moved (ap Ok w.if-branch.true) in omega (arith, c.loop-i.invariant.step.grows, up))
    | else-branch w ↦ (let up = c.loop-i.invariant.moved (sym w.moved-is ∙ m) in omega (arith, up, c.flush_one.ensures.step.grows))
  ];
  still = λ m. elim (c.if-branch.branch) [
    | then-branch w ↦ absurd (let e = sym w.moved-is ∙ m in cc)
    | else-branch w ↦ cores_trans _ _ _ (c.loop-i.invariant.still (sym w.moved-is ∙ m)) (c.in_ok-flush_one.ensures.still (ap Ok w.if-branch.false))
  ];
  done = λ m j r l h. elim (c.if-branch.branch) [
    | then-branch w ↦ absurd (let e = sym w.moved-is ∙ m in cc)
    | else-branch w ↦ elim (is_or_not c.loop-i.i j) [
      | inl e ↦ c.in_ok-flush_one.ensures.done (ap Ok w.if-branch.false) r (c.loop-i.invariant.rest c.loop-i.i (omega arith) ∙ subst (λ (k : ℕ). slice_get c.args.self.now.outs.items k ≡ Some r) e h)
      | inr n ↦ c.loop-i.invariant.done (sym w.moved-is ∙ m) j r (let d : j ≢ c.loop-i.i = n in omega (arith, l, d)) h
    ]
  ];
  rest = λ j l. c.flush_one.ensures.others j (λ e. omega (arith, l, e)) ∙ c.loop-i.invariant.rest j (omega (arith, l));
}
