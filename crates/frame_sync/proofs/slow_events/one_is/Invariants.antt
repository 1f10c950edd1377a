use Rattle.std.proofs.Common.{◌≡◌, ℤ}
use Rattle.frame_sync.proofs.Loops.{EachBelow}
use Rattle.frame_sync.proofs.slow_events.one_is.Given as goal

abbrev pub invariant-times : goal.invariant-times
invariant-times l = (EachBelow (λ (u : ℤ). u ≡ l.t → ⊥) l.times l.u-index)
