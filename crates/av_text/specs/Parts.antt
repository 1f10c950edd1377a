-- Parts of a text, one after another.
use Rattle.std.specs.Prelude.{◌==◌, ◌≤◌, ◌⊎◌, ℕ, List}
use Rattle.std.specs.Str.{IsCharBoundary}
use Rattle.av_text.specs.Classes.{is_white, Stops, IsRun}

-- the text begins with white space, or with none, and the rest with none
abbrev pub Skips : List ℕ → List ℕ → Type 0
Skips text rest = (lead : List ℕ) × IsRun is_white text lead rest

-- the text doesn't begin with this mark
abbrev pub Lacks : ℕ → List ℕ → Type 0
Lacks mark text = Stops (λ c. c == mark) text

-- a place at or after another, between two characters
abbrev pub IsPlace : List ℕ → ℕ → ℕ → Type 0
IsPlace text from place = (from ≤ place) × IsCharBoundary text place

-- how a text begins with a part of a value, and which rest follows it
abbrev pub Part : Type 0 → Type 1
Part X = List ℕ → X → List ℕ → Type 0

-- how a text begins with no such part: the kind of the fault, and the text from its byte on
abbrev pub NoPart : Type 0 → Type 1
NoPart K = List ℕ → K → List ℕ → Type 0

-- the first is missing, or it is there and the second is missing
abbrev pub Either : {X K : Type 0} → Part X → NoPart K → NoPart K → NoPart K
Either {X} {K} P F G text kind bad = F text kind bad ⊎ ((x : X) × (middle : List ℕ) × P text x middle × G middle kind bad)
