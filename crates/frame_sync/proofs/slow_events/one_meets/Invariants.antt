use Rattle.frame_sync.specs.Framesync.{Input}
use Rattle.frame_sync.specs.SlowEvents.{IsMet}
use Rattle.frame_sync.proofs.Loops.{EachBelow}
use Rattle.frame_sync.proofs.slow_events.one_meets.Given as goal

abbrev pub invariant-inputs : goal.invariant-inputs
invariant-inputs l = EachBelow (λ (i : Input). IsMet l.inputs l.t i → ⊥) l.inputs l.input-index
