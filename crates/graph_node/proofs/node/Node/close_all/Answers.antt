use Rattle.std.proofs.Common.{sym, ◌∙◌, arith, ◌<◌}
use Rattle.graph_node.specs.Nodes.{ClosedAt}
use Rattle.graph_node.proofs.NodeLemmas.{step_trans, cores_trans}
use Rattle.graph_node.proofs.LoopLemmas.{below_step, done_same}
use Rattle.graph_node.proofs.node.Node.close_all.Goals as goal
use Rattle.graph_node.proofs.node.Node.close_all.Goals.{then-close_one, else-close_one}

pub loop-i-preserved : goal.loop-i-preserved
loop-i-preserved g c =
    let inv = c.loop-i.invariant in
    let made = c.close_one.ensures in
    record {
      fit = made.fit;
      step = step_trans g.F.Filter.pads g.F.Filter.rest g.F.Filter.closes g.F.Filter.over _ _ _ c.loop-i.invariant.step c.close_one.ensures.step;
      kept = (made.kept.0 ∙ inv.kept.0, made.kept.1 ∙ inv.kept.1);
      done = (
        λ t. done_same c.loop-i.self c.close_one.new.self made.kept.1 made.step.outputs_are (inv.done.0 t),
        λ k. inv.done.1 (done_same c.close_one.new.self c.loop-i.self (sym made.kept.1) (sym made.step.outputs_are) k),
      );
      drawn = λ j l k. (let m : j < c.loop-i.self.inputs = omega (arith, made.step.inputs_are, l) in made.drawn j m (inv.drawn j m k));
      closed = below_step (ClosedAt g.F.Filter.closes c.loop-i.self) (ClosedAt g.F.Filter.closes c.close_one.new.self) c.loop-i.i inv.closed made.closed made.idle;
      moved = λ m. elim (c.if-close_one.branch) [
        | then-close_one w ↦ (let up = c.close_one.ensures.moved (w.if-close_one.true) in omega (arith, c.loop-i.invariant.step.grows, up))
        | else-close_one w ↦ (let up = c.loop-i.invariant.moved (sym w.moved-is ∙ m) in omega (arith, up, c.close_one.ensures.step.grows))
      ];
      still = λ m. elim (c.if-close_one.branch) [
        | then-close_one w ↦ absurd (let e = sym w.moved-is ∙ m in cc)
        | else-close_one w ↦ cores_trans _ _ _ (c.loop-i.invariant.still (sym w.moved-is ∙ m)) (c.close_one.ensures.still (w.if-close_one.false))
      ];
    }

pub returns-clause-drawn : goal.returns-clause-drawn
returns-clause-drawn g c k i l = c.loop-i.invariant.drawn i l (k i (omega (arith, c.loop-i.invariant.step.inputs_are, l)))
