-- What was pushed, ended and returned.
use Rattle.std.specs.Prelude.{◌≡◌, ℕ, zero, suc, ℤ, List, [], ◌∷◌, ◌++◌, true, false, Option, Some, None, map}
use Rattle.std.specs.List.{slice_get}
use Rattle.frame_sync.specs.declared.rules.Rule.{Rule}
use Rattle.frame_sync.specs.declared.rules.Step.{Step}
use Rattle.frame_sync.specs.declared.rules.Step.TheVariants.{Event, Need, Done}
use Rattle.frame_sync.specs.Framesync.{Input, AreEvents, BeginEvents, HasEnded, IsAwaited, IsCurrent}
use Rattle.av_base.specs.First.{IsFirst}

-- The inputs with all that was pushed, and the events that were returned.
pub record History : Type 0 where
  pub inputs : List Input
  pub events : List ℤ

-- nothing was pushed
abbrev pub fresh : List Rule → History
fresh rules = record { inputs = map (λ r. record { rule = r; times = []; ended = false }) rules; events = [] }

-- the list with one item changed
abbrev pub changed_at : {X : Type 0} → (X → X) → ℕ → List X → List X
changed_at f k [] = []
changed_at f zero (x ∷ xs) = f x ∷ xs
changed_at f (suc k) (x ∷ xs) = x ∷ changed_at f k xs

-- an input's list grows by a time
abbrev pub pushed : ℕ → ℤ → History → History
pushed k t h = record h { inputs = changed_at (λ (i : Input). record i { times = i.times ++ t ∷ [] }) k h.inputs }

-- an input ends
abbrev pub ended : ℕ → History → History
ended k h = record h { inputs = changed_at (λ (i : Input). record i { ended = true }) k h.inputs }

-- a step was returned: an event is added, and other steps change nothing
abbrev pub returned : Step → History → History
returned (Event t) h = record h { events = h.events ++ t ∷ [] }
returned (Need k) h = h
returned Done h = h

-- What `next` returns: the first event that wasn't returned yet. If all were returned, Done if the events have ended,
-- else the lowest input that holds the others back.
abbrev pub IsNext : History → Step → Type 0
IsNext h (Event t) = BeginEvents h.inputs (h.events ++ t ∷ [])
IsNext h (Need k) = AreEvents h.inputs h.events × (¬ HasEnded h.inputs) × IsFirst (IsAwaited h.inputs) k
IsNext h Done = AreEvents h.inputs h.events × HasEnded h.inputs

-- the current frame of an input at the last event that was returned: none before the first event
pub record IsShown (h : History) (k : ℕ) (current : Option ℕ) : Type 0 where
  pub none : h.events ≡ [] → current ≡ None
  pub last : (before : List ℤ) (t : ℤ) → h.events ≡ before ++ t ∷ [] → (i : Input) → slice_get h.inputs k ≡ Some i → IsCurrent i t current
