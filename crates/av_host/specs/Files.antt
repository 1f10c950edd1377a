-- What a call does to the files that a host keeps, as far as their types show bytes and positions.
use Rattle.std.specs.Prelude.{◌≡◌, ℕ, List, length, Option, Some, IfSome, set, slice_get}
use Rattle.std.specs.Option.{ForSome}
use Rattle.std.specs.Io.KnownBytes.{Appends}

-- Only the item at this place changes, in this way.
abbrev pub AltersAt : {A : Type 0} → List A → List A → ℕ → (A → A → Type 0) → Type 0
AltersAt {A} old new i change = (y : A) × (new ≡ set old i y) × ForSome (slice_get old i) (λ x. change x y)

-- a known position is at the end of known bytes
abbrev pub GoesToEnd : Option ℕ → Option ℕ → Option (List ℕ) → Type 0
GoesToEnd old new bytes = IfSome old (λ _. IfSome bytes (λ xs. new ≡ Some (length xs)))

-- A file goes to this place and takes the piece there.
pub record WritesOver {F : Type 0} (position : F → Option ℕ) (contents : F → Option (List ℕ)) (old new : F) (at : ℕ) (piece : List ℕ) : Type 0 where
  pub placed : F
  pub goes : IfSome (position old) (λ _. position placed ≡ Some at)
  pub writes : Appends (contents placed) (contents new) piece

-- A file takes the piece at this place, and goes back to its end.
pub record Patches {F : Type 0} (position : F → Option ℕ) (bytes contents : F → Option (List ℕ)) (old new : F) (at : ℕ) (piece : List ℕ) : Type 0 where
  pub written : F
  pub over : WritesOver position contents old written at piece
  pub to_end : GoesToEnd (position written) (position new) (bytes written)
