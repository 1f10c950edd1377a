use Rattle.std.proofs.Common.{sym, ◌∙◌, arith, ◌<◌}
use Rattle.graph_node.specs.Nodes.{WantedAt}
use Rattle.graph_node.proofs.NodeLemmas.{step_trans, cores_trans}
use Rattle.graph_node.proofs.LoopLemmas.{below_step, wanted_same}
use Rattle.graph_node.proofs.node.Node.want_all.Goals as goal
use Rattle.graph_node.proofs.node.Node.want_all.Goals.{then-want_one, else-want_one}

pub loop-i-preserved : goal.loop-i-preserved
loop-i-preserved g c =
    let inv = c.loop-i.invariant in
    let made = c.want_one.ensures in
    record {
      fit = made.fit;
      step = step_trans g.F.Filter.pads g.F.Filter.rest g.F.Filter.closes g.F.Filter.over _ _ _ c.loop-i.invariant.step c.want_one.ensures.step;
      kept = (made.kept.0 ∙ inv.kept.0, made.kept.1 ∙ inv.kept.1);
      wanted = λ k. inv.wanted (wanted_same c.want_one.new.self c.loop-i.self (sym made.kept.1) (sym made.step.outputs_are) k);
      drawn = λ j l k. (let m : j < c.loop-i.self.inputs = omega (arith, made.step.inputs_are, l) in made.drawn j m (inv.drawn j m k));
      closed = λ j l k. (let m : j < c.loop-i.self.inputs = omega (arith, made.step.inputs_are, l) in made.closed j m (inv.closed j m k));
      asked = below_step (WantedAt g.F.Filter.wants c.loop-i.self) (WantedAt g.F.Filter.wants c.want_one.new.self) c.loop-i.i inv.asked made.asked made.idle;
      moved = λ m. elim (c.if-want_one.branch) [
        | then-want_one w ↦ (let up = c.want_one.ensures.moved (w.if-want_one.true) in omega (arith, c.loop-i.invariant.step.grows, up))
        | else-want_one w ↦ (let up = c.loop-i.invariant.moved (sym w.moved-is ∙ m) in omega (arith, up, c.want_one.ensures.step.grows))
      ];
      still = λ m. elim (c.if-want_one.branch) [
        | then-want_one w ↦ absurd (let e = sym w.moved-is ∙ m in cc)
        | else-want_one w ↦ cores_trans _ _ _ (c.loop-i.invariant.still (sym w.moved-is ∙ m)) (c.want_one.ensures.still (w.if-want_one.false))
      ];
    }

pub returns-clause-drawn : goal.returns-clause-drawn
returns-clause-drawn g c k i l = c.loop-i.invariant.drawn i l (k i (omega (arith, c.loop-i.invariant.step.inputs_are, l)))

pub returns-clause-closed : goal.returns-clause-closed
returns-clause-closed g c k i l = c.loop-i.invariant.closed i l (k i (omega (arith, c.loop-i.invariant.step.inputs_are, l)))
