-- Laws on events.
use Rattle.std.specs.Prelude.{◌≡◌, ◌<◌, ◌<ℤ◌, ℕ, ℤ, List, ◌++◌, true, false, Option, Some, length}
use Rattle.std.specs.List.{slice_get}
use Rattle.frame_sync.specs.declared.rules.Step.{Step}
use Rattle.frame_sync.specs.declared.rules.Step.TheVariants.{Need, Done}
use Rattle.frame_sync.specs.Framesync.{Input, EachOne, IsRising, IsEvent, AreEvents, BeginEvents, HasEnded, IsCurrent}
use Rattle.av_base.specs.First.{IsFirst}
use Rattle.frame_sync.specs.Histories.{History, IsNext, IsShown}
use Rattle.frame_sync.specs.Lanes.{LaneValue, AreEach, IsOpen, IsPastAt, IsDone, IsHungryAt}
use Rattle.frame_sync.specs.Timelines.{Represents}

-- the one list begins the other
abbrev pub BeginsList : List ℤ → List ℤ → Type 0
BeginsList xs ys = (more : List ℤ) × (ys ≡ xs ++ more)

-- an open input begins one whose list it begins, and an ended one itself alone
pub record BeginsInput (a b : Input) : Type 0 where
  pub rule : a.rule ≡ b.rule
  pub times : BeginsList a.times b.times
  pub ended : a.ended ≡ true → (b.ended ≡ true) × (a.times ≡ b.times)

-- each input begins the other's, and times rise
pub record BeginInputs (a b : List Input) : Type 0 where
  pub each : AreEach BeginsInput a b
  pub rising : EachOne b (λ i. IsRising i.times)

-- If inputs begin others, their events begin the others' events, and are all of them if they have ended. Events that
-- have ended stay ended, and what is current at an event stays so.
pub record EventsBegin : Type 0 where
  pub events : (a b : List Input) (xs ys : List ℤ) → BeginInputs a b → AreEvents a xs → AreEvents b ys → BeginsList xs ys
  pub returned : (a b : List Input) (xs : List ℤ) → BeginInputs a b → BeginEvents a xs → BeginEvents b xs
  pub all : (a b : List Input) (xs : List ℤ) → BeginInputs a b → HasEnded a → AreEvents a xs → AreEvents b xs
  pub ended : (a b : List Input) → BeginInputs a b → HasEnded a → HasEnded b
  pub current : (a b : List Input) (t : ℤ) → BeginInputs a b → IsEvent a t → (k : ℕ) (i j : Input) → slice_get a k ≡ Some i → slice_get b k ≡ Some j
      → (c : Option ℕ) → IsCurrent i t c → IsCurrent j t c

-- If all inputs have ended, so have the events.
abbrev pub EndedInputsEnd : Type 0
EndedInputsEnd = (inputs : List Input) → EachOne inputs (λ i. i.ended ≡ true) → HasEnded inputs

-- In each history that a timeline represents times rise, the returned events begin all events, the history shows whether
-- `push` and `end` may be called, and what waits shows whether `next` returns Done or Need at once.
pub record HistoriesShow : Type 0 where
  pub rising : (lanes : List LaneValue) (h : History) → Represents lanes h → EachOne h.inputs (λ i. IsRising i.times)
  pub returned : (lanes : List LaneValue) (h : History) → Represents lanes h → BeginEvents h.inputs h.events
  pub inputs : (lanes : List LaneValue) (h : History) → Represents lanes h → length lanes ≡ length h.inputs
  pub pushes : (lanes : List LaneValue) (h : History) (k : ℕ) (i : Input) (t : ℤ) → Represents lanes h → slice_get h.inputs k ≡ Some i → i.ended ≡ false → EachOne i.times (λ u. u <ℤ t)
      → IsOpen lanes k × IsPastAt lanes k t
  pub done : (lanes : List LaneValue) (h : History) → Represents lanes h → IsDone lanes → IsNext h Done
  pub needs : (lanes : List LaneValue) (h : History) (k : ℕ) → Represents lanes h → ¬ IsDone lanes → IsFirst (IsHungryAt lanes) k → IsNext h (Need k)

-- There is one list of events, which rises strictly, and at most one result of `next`, one current frame, and one result
-- of `current`.
pub record EventsAreOne : Type 0 where
  pub rising : (inputs : List Input) (xs : List ℤ) → AreEvents inputs xs → (m n : ℕ) (t u : ℤ) → m < n → slice_get xs m ≡ Some t → slice_get xs n ≡ Some u → t <ℤ u
  pub some_list : (inputs : List Input) → (xs : List ℤ) × AreEvents inputs xs
  pub one_list : (inputs : List Input) (xs ys : List ℤ) → AreEvents inputs xs → AreEvents inputs ys → xs ≡ ys
  pub begins : (inputs : List Input) (xs ys : List ℤ) → BeginEvents inputs xs → AreEvents inputs ys → BeginsList xs ys
  pub one_next : (h : History) (a b : Step) → IsNext h a → IsNext h b → a ≡ b
  pub one_current : (i : Input) (t : ℤ) (a b : Option ℕ) → IsCurrent i t a → IsCurrent i t b → a ≡ b
  pub one_shown : (h : History) (k : ℕ) (a b : Option ℕ) → k < length h.inputs → IsShown h k a → IsShown h k b → a ≡ b
