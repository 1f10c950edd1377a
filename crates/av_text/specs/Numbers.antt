-- Whole numbers and ratios as texts (FFmpeg Utilities Documentation, "Ratio" and "Video rate"; the limits of digits are
-- this project's own).
use Rattle.std.specs.Prelude.{◌≡◌, ◌<◌, ◌≤◌, ◌+◌, ◌*◌, ◌^◌, ◌++◌, ◌⊎◌, ℕ, ℤ, pos, neg_ℤ, List, ◌∷◌, length, codes}
use Rattle.std.specs.Str.Parse.{AllDigits, digits_value}
use Rattle.av_base.specs.declared.numbers.Ratio.{Ratio}
use Rattle.av_base.specs.Reduced.{IsReduced}

-- decimal digits, from `least` to `most` of them, and the number that they write
pub record IsNumber (least most : ℕ) (text : List ℕ) (n : ℕ) : Type 0 where
  pub digits : AllDigits 10 text
  pub enough : least ≤ length text
  pub few : length text ≤ most
  pub value : n ≡ digits_value 10 text

-- a number that may have a `-` before it
pub record IsSigned (text size : List ℕ) (n : ℕ) (z : ℤ) : Type 0 where
  pub sign : ((text ≡ size) × (z ≡ pos n)) ⊎ ((text ≡ 45 ∷ size) × (z ≡ neg_ℤ (pos n)))

-- a `-` or nothing, and 1 to 18 digits
abbrev pub IsWhole : List ℕ → ℤ → Type 0
IsWhole text z = (digits : List ℕ) × (n : ℕ) × IsNumber 1 18 digits n × IsSigned text digits n z

-- the words for ratios
pub data IsRateWord : List ℕ → ℕ → ℕ → Type 0 where
  ntsc : IsRateWord (codes "ntsc") 30000 1001
  pal : IsRateWord (codes "pal") 25 1
  film : IsRateWord (codes "film") 24 1
  ntsc_film : IsRateWord (codes "ntsc_film") 24000 1001

-- `N`, `N/D`, `N:D`, a number with a point, or a word; and the two numbers whose ratio it is
pub data Spells (text : List ℕ) (num den : ℕ) : Type 0 where
  Whole : IsNumber 1 18 text num → den ≡ 1 → Spells text num den
  Parts : (above below : List ℕ) (mark : ℕ) → text ≡ above ++ mark ∷ below → (mark ≡ 47) ⊎ (mark ≡ 58)
      → IsNumber 1 18 above num → IsNumber 1 18 below den → 0 < den → Spells text num den
  Decimal : (above below : List ℕ) (whole part : ℕ) → text ≡ above ++ 46 ∷ below → IsNumber 0 18 above whole
      → IsNumber 1 18 below part → num ≡ whole * 10 ^ length below + part → den ≡ 10 ^ length below → Spells text num den
  Word : IsRateWord text num den → Spells text num den

-- the ratio that a text says, in lowest terms
abbrev pub SaysRatio : List ℕ → Ratio → Type 0
SaysRatio text r = (num den : ℕ) × Spells text num den × IsReduced num den r
