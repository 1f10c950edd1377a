-- Which histories a timeline represents.
use Rattle.std.specs.Prelude.{◌≡◌, ◌^◌, ◌<ℤ◌, ◌≤ℤ◌, ℕ, ℤ, pos, neg_ℤ, List, [], ◌∷◌, ◌++◌, false, Option, Some, None, length}
use Rattle.std.specs.List.{slice_get}
use Rattle.frame_sync.specs.declared.stamp.Stamp.{Stamp}
use Rattle.frame_sync.specs.declared.rules.Step.{Step}
use Rattle.frame_sync.specs.declared.rules.Step.TheVariants.{Event, Need, Done}
use Rattle.frame_sync.specs.Framesync.{Input, SomeOne, EachOne, IsRising, HasAt, IsSettled, IsEvent}
use Rattle.av_base.specs.First.{IsFirst}
use Rattle.frame_sync.specs.Histories.{History, IsShown}
use Rattle.frame_sync.specs.Lanes.{LaneValue, AreEach, IsDone, IsHungryAt}

-- the last of the times that were passed, with its number
abbrev pub IsLatest : List ℤ → Option Stamp → Type 0
IsLatest passed None = passed ≡ []
IsLatest passed (Some s) = (before : List ℤ) × (passed ≡ before ++ s.pts ∷ []) × (s.number ≡ length before)

-- what is kept of an input once the times up to a clock were passed
pub record Keeps (clock : ℤ) (l : LaneValue) (input : Input) : Type 0 where
  pub rule : l.rule ≡ input.rule
  pub ended : l.ended ≡ input.ended
  pub rising : IsRising input.times
  pub passed : List ℤ
  pub times : input.times ≡ passed ++ l.waiting
  pub latest : IsLatest passed l.latest
  pub reached : EachOne passed (λ t. t ≤ℤ clock)
  pub ahead : EachOne l.waiting (λ t. clock <ℤ t)

-- a time that can still be pushed to an open input
abbrev pub CanCome : Input → ℤ → Type 0
CanCome input t = (neg_ℤ (pos (2 ^ 63)) ≤ℤ t) × EachOne input.times (λ u. u <ℤ t)

-- A timeline represents a history if, up to some clock, all times were passed and all events returned. What was
-- passed is settled, and all that can still be pushed comes after the clock.
pub record Represents (lanes : List LaneValue) (h : History) : Type 0 where
  pub clock : ℤ
  pub keeps : AreEach (Keeps clock) lanes h.inputs
  pub settled : (t : ℤ) → SomeOne h.inputs (λ i. HasAt i t) → t ≤ℤ clock → IsSettled h.inputs t
  pub coming : EachOne h.inputs (λ i. i.ended ≡ false → (t : ℤ) → CanCome i t → clock <ℤ t)
  pub rising : IsRising h.events
  pub each : EachOne h.events (λ t. IsEvent h.inputs t × (t ≤ℤ clock))
  pub all : (t : ℤ) → IsEvent h.inputs t → t ≤ℤ clock → SomeOne h.events (λ u. u ≡ t)
  pub shows : (k : ℕ) (l : LaneValue) → slice_get lanes k ≡ Some l → IsShown h k l.current

-- What waits after a call of `next`. At Need the input is the lowest open one with nothing waiting. At Done an input ends
-- all, or every one of sync above 0 has ended with nothing waiting.
abbrev pub IsLeft : Step → List LaneValue → Type 0
IsLeft (Event t) lanes = Unit {0}
IsLeft (Need k) lanes = (¬ IsDone lanes) × IsFirst (IsHungryAt lanes) k
IsLeft Done lanes = IsDone lanes
