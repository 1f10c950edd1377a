-- The first number that has a property.
use Rattle.std.specs.Prelude.{◌<◌, ℕ}

pub record IsFirst (P : ℕ → Type 0) (k : ℕ) : Type 0 where
  pub holds : P k
  pub none_before : (other : ℕ) → other < k → ¬ P other

-- no number has it
abbrev pub Never : (ℕ → Type 0) → Type 0
Never P = (k : ℕ) → ¬ P k
