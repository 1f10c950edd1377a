-- Rows of pieces, for the slow reader of the tests.
use Rattle.std.specs.Prelude.{◌≡◌, ◌++◌, ℕ, List, []}
use Rattle.std.specs.List.{AllByRecursion, flat_map}
use Rattle.av_text.specs.Tokens.{Piece, source, meaning, IsPiece, trimmed}

-- the text begins with a row of pieces, and the rest follows it
pub record BeginsRow (specials text rest : List ℕ) : Type 0 where
  pub row : List Piece
  pub each : AllByRecursion (IsPiece specials) row
  pub text_is : text ≡ flat_map source row ++ rest

-- the text is a row of pieces that says the value; no byte of it counts as a special
pub record Says (text value : List ℕ) : Type 0 where
  pub row : List Piece
  pub each : AllByRecursion (IsPiece []) row
  pub text_is : text ≡ flat_map source row
  pub value_is : value ≡ flat_map meaning (trimmed row)
