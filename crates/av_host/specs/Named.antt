-- Lists of named things, of which the last of a name counts.
use Rattle.std.specs.Prelude.{ℕ, zero, suc, List, [], ◌∷◌, bytes_eq, Option, Some, None, if◌then◌else◌}

-- the first, if it is there, and the second otherwise
abbrev pub or_else : {A : Type 0} → Option A → Option A → Option A
or_else (Some x) o = Some x
or_else None o = o

-- the value, if nothing comes in its place
abbrev pub unless : {A B : Type 0} → Option A → B → Option B
unless (Some x) y = None
unless None y = Some y

-- the last thing of this name
abbrev pub last_named : {A : Type 0} → (A → List ℕ) → List A → List ℕ → Option A
last_named name [] n = None
last_named name (x ∷ xs) n = or_else (last_named name xs n) (if bytes_eq (name x) n then Some x else None)

-- the name of the thing at this place, if no later one has it
abbrev pub live_name : {A : Type 0} → (A → List ℕ) → List A → ℕ → Option (List ℕ)
live_name name [] i = None
live_name name (x ∷ xs) zero = unless (last_named name xs (name x)) (name x)
live_name name (x ∷ xs) (suc i) = live_name name xs i
