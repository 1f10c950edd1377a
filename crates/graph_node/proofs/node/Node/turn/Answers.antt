use Rattle.std.proofs.Common.{arith}
use Rattle.graph_node.proofs.MarkLemmas.{fit_mark, step_mark, idle_mark, moves_mark, cores_mark}
use Rattle.graph_node.proofs.node.Node.turn.Goals as goal

pub returns-clause-sound : goal.returns-clause-sound
returns-clause-sound g c = record {
  fit = fit_mark g.F.Filter.pads g.F.Filter.rest g.F.Filter.closes g.F.Filter.wants g.F.Filter.over g.F.Filter.accepts c.work-turned.new.self _ c.work-turned.ensures.fit;
  rests = λ e. idle_mark g.F.Filter.pads g.F.Filter.rest g.F.Filter.closes g.F.Filter.wants g.F.Filter.over g.F.Filter.accepts c.work-turned.new.self _ (c.work-turned.ensures.idle (c.is_idle-self.ensures.0 e));
}

pub returns-clause-step : goal.returns-clause-step
returns-clause-step g c = step_mark g.F.Filter.pads g.F.Filter.rest g.F.Filter.closes g.F.Filter.wants g.F.Filter.over g.F.Filter.accepts c.args.self.now c.work-turned.new.self _ c.work-turned.ensures.step

pub returns-clause-moved : goal.returns-clause-moved
returns-clause-moved g c e = (let l = c.work-turned.ensures.moved e in let m = moves_mark c.work-turned.new.self c.is_idle-self.result in omega (arith, l, m))

pub returns-clause-idle : goal.returns-clause-idle
returns-clause-idle g c e = idle_mark g.F.Filter.pads g.F.Filter.rest g.F.Filter.closes g.F.Filter.wants g.F.Filter.over g.F.Filter.accepts c.work-turned.new.self _ (c.work-turned.ensures.idle e)

pub returns-clause-still : goal.returns-clause-still
returns-clause-still g c e = (let s = c.work-turned.ensures.still e in (cores_mark c.args.self.now c.work-turned.new.self _ s.0, s.1))
