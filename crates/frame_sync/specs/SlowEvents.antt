-- The parts of an event, one input at a time, as a plain slow program tests them.
use Rattle.std.specs.Prelude.{◌≡◌, ◌<◌, ◌≤◌, ◌<ℤ◌, ◌≤ℤ◌, ℕ, ℤ, pos, List, false}
use Rattle.frame_sync.specs.declared.rules.Before.TheVariants as before
use Rattle.frame_sync.specs.declared.rules.After.TheVariants as after
use Rattle.frame_sync.specs.Framesync.{Input, EachOne, HasAt, HasFrom, HasUpTo}

-- an input allows an event at the time: by its rule, and if it is open
pub record Allows (t : ℤ) (i : Input) : Type 0 where
  pub begun : i.rule.before ≡ before.Stop → HasUpTo i t
  pub lasting : i.rule.after ≡ after.Stop → HasFrom i t
  pub ahead : i.ended ≡ false → HasFrom i t

-- it has no greater sync, or no frame at or after the time
abbrev pub IsBelow : ℤ → ℕ → Input → Type 0
IsBelow t sync i = HasFrom i t → i.rule.sync ≤ sync

-- it has a frame at the time, and its sync is the level, and above 0
pub record IsMet (inputs : List Input) (t : ℤ) (i : Input) : Type 0 where
  pub at : HasAt i t
  pub above_0 : 0 < i.rule.sync
  pub top : EachOne inputs (IsBelow t i.rule.sync)

-- all times are among the first ones
abbrev pub AreFew : List Input → Type 0
AreFew inputs = EachOne inputs (λ i. EachOne i.times (λ u. (pos 0 ≤ℤ u) × (u <ℤ pos 6)))
