use Rattle.frame_sync.specs.SlowEvents.{Allows}
use Rattle.frame_sync.proofs.Loops.{EachBelow}
use Rattle.frame_sync.proofs.slow_events.all_allow.Given as goal

abbrev pub invariant-inputs : goal.invariant-inputs
invariant-inputs l = EachBelow (Allows l.t) l.inputs l.input-index
