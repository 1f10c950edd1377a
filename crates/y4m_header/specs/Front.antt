-- Texts that may go on.
use Rattle.std.specs.Prelude.{◌≡◌, ℕ, List, [], ◌∷◌, ◌++◌, Bool, true, false, ◌&&◌, nat_lt, is_some}
use Rattle.std.specs.Bool.{MatchBool}
use Rattle.std.specs.List.{list_all}
use Rattle.y4m_header.specs.Params.{is_letter, is_good}
use Rattle.y4m_header.specs.Said.{ordered_in}
use Rattle.y4m_header.specs.Walk.{param}

-- more bytes, greater than a code, after which the text passes a test
pub record Completes (code : ℕ) (test : List ℕ → Bool) (text : List ℕ) : Type 0 where
  pub more : List ℕ
  pub above : list_all (nat_lt code) more ≡ true
  pub passes : test (text ++ more) ≡ true

-- whether the text can go on to one that passes a test
abbrev pub GoesOn : ℕ → (List ℕ → Bool) → List ℕ → Bool → Type 0
GoesOn code test text result = MatchBool result (Completes code test text) ((more : List ℕ) → test (text ++ more) ≡ false)

-- a value that the letter may have
abbrev pub has_value : ℕ → List ℕ → Bool
has_value letter value = is_good (param letter value)

-- a piece that is empty or a parameter in order
abbrev pub is_whole : List ℕ → Bool
is_whole [] = true
is_whole (c ∷ value) = is_letter c && has_value c value

-- what follows the name of the format is in order
abbrev pub is_ordered : List ℕ → Bool
is_ordered text = is_some (ordered_in text)

-- what follows the first space is in order
abbrev pub are_ordered : List ℕ → Bool
are_ordered text = is_ordered (32 ∷ text)
