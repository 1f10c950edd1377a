-- When the frames of several inputs meet (after FFmpeg's framesync), on whole lists.
use Rattle.std.specs.Prelude.{◌≡◌, ◌<◌, ◌≤◌, ◌⊎◌, ◌<ℤ◌, ◌≤ℤ◌, ℕ, ℤ, List, [], Bool, true, false, Option, Some, None}
use Rattle.std.specs.List.{slice_get}
use Rattle.frame_sync.specs.declared.rules.Rule.{Rule}
use Rattle.frame_sync.specs.declared.rules.Before.TheVariants as before
use Rattle.frame_sync.specs.declared.rules.After.TheVariants as after

-- An input: its rule, the times of its frames so far, and whether it has ended.
pub record Input : Type 0 where
  pub rule : Rule
  pub times : List ℤ
  pub ended : Bool

-- one of these is so
abbrev pub SomeOne : {X : Type 0} → List X → (X → Type 0) → Type 0
SomeOne {X} xs P = (k : ℕ) × (x : X) × (slice_get xs k ≡ Some x) × P x

-- each of these is so
abbrev pub EachOne : {X : Type 0} → List X → (X → Type 0) → Type 0
EachOne {X} xs P = (k : ℕ) (x : X) → slice_get xs k ≡ Some x → P x

-- times that rise strictly
abbrev pub IsRising : List ℤ → Type 0
IsRising times = (m n : ℕ) (t u : ℤ) → m < n → slice_get times m ≡ Some t → slice_get times n ≡ Some u → t <ℤ u

-- a frame at the time
abbrev pub HasAt : Input → ℤ → Type 0
HasAt input t = SomeOne input.times (λ u. u ≡ t)

-- a frame at the time or after it
abbrev pub HasFrom : Input → ℤ → Type 0
HasFrom input t = SomeOne input.times (λ u. t ≤ℤ u)

-- a frame at the time or before it
abbrev pub HasUpTo : Input → ℤ → Type 0
HasUpTo input t = SomeOne input.times (λ u. u ≤ℤ t)

-- a time of some input, at or after which every open input has a frame
pub record IsSettled (inputs : List Input) (t : ℤ) : Type 0 where
  pub here : SomeOne inputs (λ i. HasAt i t)
  pub ahead : EachOne inputs (λ i. i.ended ≡ false → HasFrom i t)

-- the greatest sync of the inputs that have a frame at or after a time
pub record IsLevel (inputs : List Input) (t : ℤ) (level : ℕ) : Type 0 where
  pub reached : SomeOne inputs (λ i. HasFrom i t × (i.rule.sync ≡ level))
  pub greatest : EachOne inputs (λ i. HasFrom i t → i.rule.sync ≤ level)

-- There is an event at a settled time if its level is above 0, an input of that sync has a frame there, every
-- Stop-before input has a frame not later, and every Stop-after input has one at or after it.
pub record IsEvent (inputs : List Input) (t : ℤ) : Type 0 where
  pub settled : IsSettled inputs t
  pub level : ℕ
  pub is_level : IsLevel inputs t level
  pub above_0 : 0 < level
  pub meets : SomeOne inputs (λ i. HasAt i t × (i.rule.sync ≡ level))
  pub begun : EachOne inputs (λ i. i.rule.before ≡ before.Stop → HasUpTo i t)
  pub lasting : EachOne inputs (λ i. i.rule.after ≡ after.Stop → HasFrom i t)

-- the list of all events
pub record AreEvents (inputs : List Input) (events : List ℤ) : Type 0 where
  pub rising : IsRising events
  pub each : EachOne events (IsEvent inputs)
  pub all : (t : ℤ) → IsEvent inputs t → SomeOne events (λ u. u ≡ t)

-- these are the first of the events: each is one, and none before one of them is missing
pub record BeginEvents (inputs : List Input) (events : List ℤ) : Type 0 where
  pub rising : IsRising events
  pub each : EachOne events (IsEvent inputs)
  pub first : (t : ℤ) → IsEvent inputs t → SomeOne events (λ u. t ≤ℤ u) → SomeOne events (λ u. u ≡ t)

-- a Null-after input that has ended before a time
pub record IsGone (input : Input) (t : ℤ) : Type 0 where
  pub rule : input.rule.after ≡ after.Null
  pub ended : input.ended ≡ true
  pub before : EachOne input.times (λ u. u <ℤ t)

-- the number of the last frame not later than a time
pub record IsLast (input : Input) (t : ℤ) (number : ℕ) : Type 0 where
  pub here : (u : ℤ) × (slice_get input.times number ≡ Some u) × (u ≤ℤ t)
  pub later : (k : ℕ) (u : ℤ) → number < k → slice_get input.times k ≡ Some u → t <ℤ u

-- the current frame of an input: the last one not later, if there is one and the input isn't gone
abbrev pub IsCurrent : Input → ℤ → Option ℕ → Type 0
IsCurrent input t (Some number) = IsLast input t number × ¬ IsGone input t
IsCurrent input t None = (¬ HasUpTo input t) ⊎ IsGone input t

-- an input that has ended, all of whose frames are settled
pub record IsOver (inputs : List Input) (input : Input) : Type 0 where
  pub ended : input.ended ≡ true
  pub settled : EachOne input.times (IsSettled inputs)

-- No more events come: a Stop-before input has ended without a frame, or a Stop-after input is over, or all inputs of
-- sync above 0 are.
pub data HasEnded (inputs : List Input) : Type 0 where
  NeverBegins : SomeOne inputs (λ i. (i.rule.before ≡ before.Stop) × (i.ended ≡ true) × (i.times ≡ [])) → HasEnded inputs
  Stops : SomeOne inputs (λ i. (i.rule.after ≡ after.Stop) × IsOver inputs i) → HasEnded inputs
  AllOver : EachOne inputs (λ i. 0 < i.rule.sync → IsOver inputs i) → HasEnded inputs

-- an open input that holds the others back: all its frames are settled
abbrev pub IsAwaited : List Input → ℕ → Type 0
IsAwaited inputs k = (i : Input) × (slice_get inputs k ≡ Some i) × (i.ended ≡ false) × EachOne i.times (IsSettled inputs)
