use Rattle.std.proofs.Common.{length, ◌≡◌, inl, inr, sym, ◌∙◌, ap, subst, arith, false, Ok, ℕ}
use Rattle.graph_node.specs.Nodes.{AskedAt, outlet}
use Rattle.av_frame.specs.Streams.{Stream}
use Rattle.graph_node.specs.Ports.{is_done}
use Rattle.graph_node.proofs.NodeLemmas.{step_trans, cores_trans, is_or_not}
use Rattle.graph_node.proofs.LoopLemmas.{below_step_in}
use Rattle.graph_node.proofs.node.Node.give_all.Goals as goal
use Rattle.graph_node.proofs.node.Node.give_all.Goals.{then-branch, else-branch}

pub loop-i-preserved : goal.loop-i-preserved
loop-i-preserved g c = record {
  fit = c.give_one.ensures.fit;
  step = step_trans g.F.Filter.pads g.F.Filter.rest g.F.Filter.closes g.F.Filter.over _ _ _ c.loop-i.invariant.step c.give_one.ensures.step;
  ins = c.give_one.ensures.ins ∙ c.loop-i.invariant.ins;
  asked = λ m. elim (c.if-branch.branch) [
    | then-branch w ↦ absurd (let e = sym w.moved-is ∙ m in cc)
    | else-branch w ↦
        let none = ap Ok w.if-branch.false in
        below_step_in (AskedAt g.F.Filter.rest c.loop-i.self) (AskedAt g.F.Filter.rest c.give_one.new.self) c.loop-i.i c.loop-i.self.outputs (omega (arith, c.loop-i.invariant.step.outputs_are))
        (c.loop-i.invariant.asked (sym w.moved-is ∙ m)) (c.in_ok-give_one.ensures.asked none) (c.in_ok-give_one.ensures.idle none)
  ];
  needs = λ m o d l q. elim (c.if-branch.branch) [
    | then-branch w ↦ absurd (let e = sym w.moved-is ∙ m in cc)
    | else-branch w ↦
        let none = ap Ok w.if-branch.false in
        let still = sym (c.in_ok-give_one.ensures.done none o d) ∙ q in
        c.in_ok-give_one.ensures.needs none d
        (elim (is_or_not c.loop-i.i o) [
          | inl e ↦ inr (subst (λ (m : ℕ). is_done (outlet c.loop-i.self m d) ≡ false) e still)
          | inr n ↦ inl (c.loop-i.invariant.needs (sym w.moved-is ∙ m) o d (omega (arith, n, l)) still)
        ])
  ];
  few = λ o. elim (is_or_not c.loop-i.i o) [
    | inl e ↦
        (let was = ap (λ (s : Stream). length s.frames) (c.loop-i.invariant.later o (omega (arith, e))) in
        let one = c.give_one.ensures.few o in
        omega (arith, was, one))
    | inr n ↦
        (let same = ap (λ (s : Stream). length s.frames) (c.give_one.ensures.others o n) in
        let few = c.loop-i.invariant.few o in
        omega (arith, same, few))
  ];
  later = λ o l. c.give_one.ensures.others o (λ e. omega (arith, e, l)) ∙ c.loop-i.invariant.later o (omega (arith, l));
  moved = λ m. elim (c.if-branch.branch) [
    | then-branch w ↦ (let up = c.in_ok-give_one.ensures.moved (ap Ok w.if-branch.true) in omega (arith, c.loop-i.invariant.step.grows, up))
    | else-branch w ↦ (let up = c.loop-i.invariant.moved (sym w.moved-is ∙ m) in omega (arith, up, c.give_one.ensures.step.grows))
  ];
  still = λ m. elim (c.if-branch.branch) [
    | then-branch w ↦ absurd (let e = sym w.moved-is ∙ m in cc)
    | else-branch w ↦ cores_trans _ _ _ (c.loop-i.invariant.still (sym w.moved-is ∙ m)) (c.in_ok-give_one.ensures.still (ap Ok w.if-branch.false))
  ];
}
