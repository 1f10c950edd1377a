-- The pieces that the code reads.
use Rattle.std.specs.Prelude.{◌≡◌, ◌≢◌, ◌++◌, ℕ, Bool, false, List, [], ◌∷◌}
use Rattle.std.specs.List.{Contains}
use Rattle.std.specs.Prelude.{encode_utf8}
use Rattle.av_text.specs.Classes.{is_white}
use Rattle.av_text.specs.declared.token.Piece.{Piece}
use Rattle.av_text.specs.declared.token.Piece.TheVariants.{Plain, Escaped, Quoted}

-- this is how the piece is written, and it is one
abbrev pub IsRaw : List ℕ → Piece → List ℕ → Type 0
IsRaw specials (Plain c) raw = (raw ≡ encode_utf8 c) × (c ≢ 92) × (c ≢ 39) × ¬ Contains specials c
IsRaw specials (Escaped c) raw = raw ≡ 92 ∷ encode_utf8 c
IsRaw specials (Quoted inner) raw = (raw ≡ 39 ∷ (inner.now ++ 39 ∷ [])) × ¬ Contains inner.now 39

-- the text begins with the piece, and the rest follows it
abbrev pub BeginsPiece : List ℕ → List ℕ → Piece → List ℕ → Type 0
BeginsPiece specials text piece rest = (raw : List ℕ) × IsRaw specials piece raw × (text ≡ raw ++ rest)

-- what the piece means
abbrev pub said : Piece → List ℕ
said (Plain c) = encode_utf8 c
said (Escaped c) = encode_utf8 c
said (Quoted inner) = inner.now

-- whether it is plain white space
abbrev pub is_gap : Piece → Bool
is_gap (Plain c) = is_white c
is_gap (Escaped c) = false
is_gap (Quoted inner) = false
