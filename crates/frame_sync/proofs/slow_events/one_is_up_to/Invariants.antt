use Rattle.std.proofs.Common.{◌≤ℤ◌, ℤ}
use Rattle.frame_sync.proofs.Loops.{EachBelow}
use Rattle.frame_sync.proofs.slow_events.one_is_up_to.Given as goal

abbrev pub invariant-times : goal.invariant-times
invariant-times l = (EachBelow (λ (u : ℤ). u ≤ℤ l.t → ⊥) l.times l.u-index)
