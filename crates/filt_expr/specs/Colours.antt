-- Colours of areas: words, and the form `yuv/Y/U/V` (the form is this project's own).
use Rattle.std.specs.Prelude.{◌≡◌, ◌<◌, ◌⊎◌, ◌==◌, ℕ, pos, List, [], ◌∷◌, Some, None, Bool, codes, length, if◌then◌else◌}
use Rattle.std.specs.List.{position_or_len, before_first, after_first}
use Rattle.av_filter.specs.Options.{IsWholeWithin}
use Rattle.av_filter.specs.Words.{word_in}
use Rattle.filt_expr.specs.declared.colour.Colour.{Colour}

abbrev pub colours : List (List ℕ × Colour)
colours = (codes "black", record { y = 16; u = 128; v = 128 }) ∷ (codes "white", record { y = 235; u = 128; v = 128 }) ∷ []

abbrev pub is_slash : ℕ → Bool
is_slash c = c == 47

-- the text is one piece, a `/` after it, and the rest
pub record Splits (text piece rest : List ℕ) : Type 0 where
  pub has : position_or_len is_slash text < length text
  pub piece_is : piece ≡ before_first is_slash text
  pub rest_is : rest ≡ after_first is_slash text

-- a whole number from 0 to 255
abbrev pub IsSample : List ℕ → ℕ → Type 0
IsSample text n = IsWholeWithin (pos 0) (pos 255) text (pos n)

-- `yuv/Y/U/V`
pub record IsForm (text : List ℕ) (colour : Colour) : Type 0 where
  pub tail : List ℕ
  pub word : Splits text (codes "yuv") tail
  pub y : List ℕ
  pub behind : List ℕ
  pub first : Splits tail y behind
  pub u : List ℕ
  pub v : List ℕ
  pub second : Splits behind u v
  pub y_is : IsSample y colour.y
  pub u_is : IsSample u colour.u
  pub v_is : IsSample v colour.v

-- the text means this colour: by a word, else by the form
abbrev pub MeansColour : List ℕ → Colour → Type 0
MeansColour text colour = (word_in colours text ≡ Some colour) ⊎ ((word_in colours text ≡ None) × IsForm text colour)

-- the sample of a plane. A is opaque
abbrev pub colour_in : Colour → ℕ → ℕ
colour_in colour p = if p == 0 then colour.y else (if p == 1 then colour.u else (if p == 2 then colour.v else 255))
