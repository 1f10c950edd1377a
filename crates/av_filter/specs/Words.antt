-- Words and names in texts.
use Rattle.std.specs.Prelude.{ℕ, Bool, List, Option, nat_eq}
use Rattle.std.specs.Cmp.Lexicographic.{pointwise}
use Rattle.std.specs.Map.{lookup}

-- two texts are the same
abbrev pub is_text : List ℕ → List ℕ → Bool
is_text = pointwise nat_eq

-- what a text means in a table of words, and nothing where it is none of them
abbrev pub word_in : {X : Type 0} → List (List ℕ × X) → List ℕ → Option X
word_in words text = lookup (is_text text) words
