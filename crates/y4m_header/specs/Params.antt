-- The parameters of a header line of YUV4MPEG2 (stream header; the ranges of the values are this project's own).
use Rattle.std.specs.Prelude.{◌==◌, ℕ, List, [], ◌∷◌, Bool, true, ◌&&◌, ◌||◌, nat_le, nat_lt, nat_eq, map, codes, Option, Some, None, if◌then◌else◌}
use Rattle.std.specs.Prelude.{option_map, option_and_then, is_some}
use Rattle.std.specs.List.{slice_split, list_all, list_any}
use Rattle.std.specs.Char.{is_digit}
use Rattle.std.specs.Str.Parse.{digits_value}
use Rattle.std.specs.Map.{lookup}
use Rattle.std.specs.Cmp.Lexicographic.{pointwise}
use Rattle.av_base.specs.declared.formats.PixelFormat.{PixelFormat}
use Rattle.av_base.specs.declared.formats.PixelFormat.TheVariants.{Gray, Yuv420p, Yuv422p, Yuv444p, Yuva444p}
use Rattle.av_base.specs.Bounds.{greatest_side, number_bound}
use Rattle.av_base.specs.Shapes.{scan_letters}

-- ---- parameters

-- a parameter: its letter, and its value
pub record Param : Type 0 where
  pub letter : ℕ
  pub value : List ℕ

-- the letters A to Z and a to z
abbrev pub is_letter : ℕ → Bool
is_letter c = (nat_le 65 c && nat_le c 90) || (nat_le 97 c && nat_le c 122)

abbrev pub is_space : ℕ → Bool
is_space c = c == 32

abbrev pub is_colon : ℕ → Bool
is_colon c = c == 58

-- The parameters of a text that was cut at its spaces. Where several spaces follow one another, the pieces between them
-- are empty. The last piece may not be, and each other begins with a letter.
abbrev pub params_in : List (List ℕ) → Option (List Param)
params_in [] = Some []
params_in ([] ∷ []) = None
params_in ([] ∷ (piece ∷ pieces)) = params_in (piece ∷ pieces)
params_in ((c ∷ value) ∷ pieces) = if is_letter c then option_map (λ others. record { letter = c; value = value } ∷ others) (params_in pieces) else None

-- the parameters that follow the name of the format, each after one or more spaces
abbrev pub params_of : List ℕ → Option (List Param)
params_of [] = Some []
params_of (c ∷ text) = if is_space c then params_in (slice_split is_space text) else None

-- ---- values

-- decimal digits, which may begin with zeros
abbrev pub number_in : List ℕ → Option ℕ
number_in [] = None
number_in (c ∷ cs) = if list_all (λ d. is_digit d 10) (c ∷ cs) then Some (digits_value 10 (c ∷ cs)) else None

-- two numbers with a colon between them
abbrev pub both_of : List (Option ℕ) → Option (ℕ × ℕ)
both_of (Some n ∷ (Some d ∷ [])) = Some (n, d)
both_of other = None

abbrev pub numbers_in : List ℕ → Option (ℕ × ℕ)
numbers_in value = both_of (map number_in (slice_split is_colon value))

-- a width or a height: 1 to 8192
abbrev pub side_in : List ℕ → Option ℕ
side_in value = option_and_then (λ n. if nat_lt 0 n && nat_le n greatest_side then Some n else None) (number_in value)

-- frames per second: 1 to 2^31-1 on both sides, or 0:0, which is 25:1
abbrev pub rate_in : List ℕ → Option (ℕ × ℕ)
rate_in value = option_and_then rate_of (numbers_in value) where
  rate_of : ℕ × ℕ → Option (ℕ × ℕ)
  rate_of (n, d) =
      if n == 0 && d == 0 then Some (25, 1) else
      if (nat_lt 0 n && nat_lt n number_bound) && (nat_lt 0 d && nat_lt d number_bound) then Some (n, d) else None

-- the aspect of a sample: 0 to 2^31-1 on both sides; if a side is 0, the aspect is unknown, which is 0:1
abbrev pub aspect_in : List ℕ → Option (ℕ × ℕ)
aspect_in value = option_and_then aspect_of (numbers_in value) where
  aspect_of : ℕ × ℕ → Option (ℕ × ℕ)
  aspect_of (n, d) = if nat_lt n number_bound && nat_lt d number_bound then Some (if n == 0 || d == 0 then (0, 1) else (n, d)) else None

-- the order of the fields: one letter of p t b m ?
abbrev pub scan_in : List ℕ → Option ℕ
scan_in (c ∷ []) = if list_any (nat_eq c) scan_letters then Some c else None
scan_in other = None

-- the names of colours
abbrev pub colours : List (List ℕ × PixelFormat)
colours =
    (codes "420jpeg", Yuv420p) ∷ (codes "420mpeg2", Yuv420p) ∷ (codes "420paldv", Yuv420p) ∷ (codes "420", Yuv420p)
    ∷ (codes "422", Yuv422p) ∷ (codes "444", Yuv444p) ∷ (codes "444alpha", Yuva444p) ∷ (codes "mono", Gray) ∷ []

abbrev pub colour_in : List ℕ → Option PixelFormat
colour_in value = lookup (pointwise nat_eq value) colours

-- ---- letters

abbrev pub width_letter : ℕ
width_letter = 87

abbrev pub height_letter : ℕ
height_letter = 72

abbrev pub rate_letter : ℕ
rate_letter = 70

abbrev pub scan_letter : ℕ
scan_letter = 73

abbrev pub aspect_letter : ℕ
aspect_letter = 65

abbrev pub colour_letter : ℕ
colour_letter = 67

-- the value is one that the letter may have; a name of a colour may be unknown, and other letters may have any value
abbrev pub is_good : Param → Bool
is_good p =
    if p.letter == width_letter || p.letter == height_letter then is_some (side_in p.value) else
    if p.letter == rate_letter then is_some (rate_in p.value) else
    if p.letter == scan_letter then is_some (scan_in p.value) else
    if p.letter == aspect_letter then is_some (aspect_in p.value) else true

-- it names no colour, or one that is known
abbrev pub is_known : Param → Bool
is_known p = if p.letter == colour_letter then is_some (colour_in p.value) else true
