use Rattle.std.proofs.Common.{sym, ◌∙◌, ap, arith, Ok}
use Rattle.graph_node.specs.Nodes.{DrawnAt}
use Rattle.graph_node.proofs.NodeLemmas.{step_trans, cores_trans}
use Rattle.graph_node.proofs.LoopLemmas.{below_step, ok_same}
use Rattle.graph_node.proofs.node.Node.offer_all.Goals as goal
use Rattle.graph_node.proofs.node.Node.offer_all.Goals.{then-branch, else-branch}

pub loop-i-preserved : goal.loop-i-preserved
loop-i-preserved g c = record {
  fit = c.offer_one.ensures.fit;
  step = step_trans g.F.Filter.pads g.F.Filter.rest g.F.Filter.closes g.F.Filter.over _ _ _ c.loop-i.invariant.step c.offer_one.ensures.step;
  drawn = λ m. elim (c.if-branch.branch) [
    | then-branch w ↦ absurd (let e = sym w.moved-is ∙ m in cc)
    | else-branch w ↦
        below_step (DrawnAt g.F.Filter.closes c.loop-i.self) (DrawnAt g.F.Filter.closes c.offer_one.new.self) c.loop-i.i
        (c.loop-i.invariant.drawn (sym w.moved-is ∙ m)) c.offer_one.ensures.drawn (c.in_ok-offer_one.ensures.idle (ap Ok w.if-branch.false))
  ];
  outs = c.offer_one.ensures.outs ∙ c.loop-i.invariant.outs;
  moved = λ m. elim (c.if-branch.branch) [
    | then-branch w ↦ (let up = c.in_ok-offer_one.ensures.moved (ap Ok w.if-branch.true) in omega (arith, c.loop-i.invariant.step.grows, up))
    | else-branch w ↦ (let up = c.loop-i.invariant.moved (sym w.moved-is ∙ m) in omega (arith, up, c.offer_one.ensures.step.grows))
  ];
  still = λ m. elim (c.if-branch.branch) [
    | then-branch w ↦ absurd (let e = sym w.moved-is ∙ m in cc)
    | else-branch w ↦ cores_trans _ _ _ (c.loop-i.invariant.still (sym w.moved-is ∙ m)) (c.in_ok-offer_one.ensures.still (ap Ok w.if-branch.false))
  ];
}

pub returns-clause-idle : goal.returns-clause-idle
returns-clause-idle g c e i l = c.loop-i.invariant.drawn (ok_same _ _ e) i (omega (arith, c.loop-i.invariant.step.inputs_are, l))
