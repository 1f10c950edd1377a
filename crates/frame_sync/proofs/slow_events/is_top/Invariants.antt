use Rattle.frame_sync.specs.SlowEvents.{IsBelow}
use Rattle.frame_sync.proofs.Loops.{EachBelow}
use Rattle.frame_sync.proofs.slow_events.is_top.Given as goal

abbrev pub invariant-inputs : goal.invariant-inputs
invariant-inputs l = EachBelow (IsBelow l.t l.sync) l.inputs l.input-index
