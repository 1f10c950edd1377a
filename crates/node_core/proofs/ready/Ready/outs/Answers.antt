use Rattle.node_core.specs.FilterLaws.{frame_filter_laws}
use Rattle.node_core.proofs.ready.Ready.outs.Goals as goal

pub returns-clause-pictured : goal.returns-clause-pictured
returns-clause-pictured c =
    let is = c.self.invariant in
    (_, is.outs, frame_filter_laws.making.pictured c.self.inside.settings is.shape is.settled)
