-- Tokens (FFmpeg Filters Documentation, "Notes on filtergraph escaping"; FFmpeg Utilities Documentation, "Quoting and
-- escaping"). A text is the list of its bytes in UTF-8. The marks `\` and `'`, white space and the specials are ASCII,
-- and a byte from 128 on, which is a part of a longer character, is plain: so whether one goes by bytes or by
-- characters makes no difference.
use Rattle.std.specs.Prelude.{◌≡◌, ◌≢◌, ◌++◌, ℕ, Bool, false, cond, List, [], ◌∷◌}
use Rattle.std.specs.List.{AllByRecursion, Contains, flat_map}
use Rattle.av_text.specs.Classes.{is_white, IsRun}

-- a piece of a raw token
pub data Piece : Type 0 where
  -- a character that means itself
  Plain : ℕ → Piece
  -- a character after a `\`
  Escaped : ℕ → Piece
  -- a text between two `'`
  Quoted : List ℕ → Piece

-- how a piece is written
abbrev pub source : Piece → List ℕ
source (Plain c) = c ∷ []
source (Escaped c) = 92 ∷ c ∷ []
source (Quoted text) = 39 ∷ (text ++ 39 ∷ [])

-- what a piece means
abbrev pub meaning : Piece → List ℕ
meaning (Plain c) = c ∷ []
meaning (Escaped c) = c ∷ []
meaning (Quoted text) = text

-- a plain character is neither a `\` nor a `'` nor a special, and a quoted text has no `'`
abbrev pub IsPiece : List ℕ → Piece → Type 0
IsPiece specials (Plain c) = (c ≢ 92) × (c ≢ 39) × ¬ Contains specials c
IsPiece specials (Escaped c) = Unit {0}
IsPiece specials (Quoted text) = ¬ Contains text 39

-- plain white space
abbrev pub is_blank : Piece → Bool
is_blank (Plain c) = is_white c
is_blank (Escaped c) = false
is_blank (Quoted text) = false

-- a piece before others; plain white space before nothing is dropped
abbrev pub put_before : Piece → List Piece → List Piece
put_before p [] = cond (is_blank p) [] (p ∷ [])
put_before p (q ∷ qs) = p ∷ q ∷ qs

-- a row of pieces without the plain white space at its end
abbrev pub trimmed : List Piece → List Piece
trimmed [] = []
trimmed (p ∷ ps) = put_before p (trimmed ps)

-- after white space the text is this row of pieces, and then the rest
pub record IsRow (specials text : List ℕ) (row : List Piece) (rest : List ℕ) : Type 0 where
  pub lead : List ℕ
  pub begins : IsRun is_white text lead (flat_map source row ++ rest)
  pub each : AllByRecursion (IsPiece specials) row

-- a token may end here: at the end of the text, or before a special that is a plain character
abbrev pub Ends : List ℕ → List ℕ → Type 0
Ends specials [] = Unit {0}
Ends specials (c ∷ rest) = (c ≢ 92) × (c ≢ 39) × Contains specials c

-- the text begins with a token of this value, and the rest follows it
pub record IsToken (specials text value rest : List ℕ) : Type 0 where
  pub row : List Piece
  pub is_row : IsRow specials text row rest
  pub ends : Ends specials rest
  pub value_is : value ≡ flat_map meaning (trimmed row)
