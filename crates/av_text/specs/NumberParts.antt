-- What the code finds on its way to a number, a ratio or a time.
use Rattle.std.specs.Prelude.{◌≡◌, ◌<◌, ◌+◌, ◌*◌, ◌^◌, ◌++◌, ◌==◌, ◌||◌, ◌⊎◌, ℕ, ℤ, pos, neg_ℤ, Bool, true, false, List, [], ◌∷◌, length}
use Rattle.av_text.specs.Classes.{is_digit, Stops}
use Rattle.av_text.specs.Numbers.{IsNumber}
use Rattle.av_text.specs.Times.{IsFraction, micros}

-- whether the text begins with a `-`, and the text without it
abbrev pub IsUnsigned : List ℕ → Bool → List ℕ → Type 0
IsUnsigned text true size = text ≡ 45 ∷ size
IsUnsigned text false size = (text ≡ size) × Stops (λ c. c == 45) text

abbrev pub signed_of : Bool → ℕ → ℤ
signed_of true n = neg_ℤ (pos n)
signed_of false n = pos n

-- `above.below`, and the two numbers whose ratio it is
pub record IsDecimal (above below : List ℕ) (num den : ℕ) : Type 0 where
  pub whole : ℕ
  pub part : ℕ
  pub is_whole : IsNumber 0 18 above whole
  pub is_part : IsNumber 1 18 below part
  pub num_is : num ≡ whole * 10 ^ length below + part
  pub den_is : den ≡ 10 ^ length below

-- the same of `above/below`
pub record IsQuotient (above below : List ℕ) (num den : ℕ) : Type 0 where
  pub is_num : IsNumber 1 18 above num
  pub is_den : IsNumber 1 18 below den
  pub some : 0 < den

-- the two numbers that digits and the text after them say
abbrev pub AreParts : List ℕ → List ℕ → ℕ → ℕ → Type 0
AreParts above [] num den = IsNumber 1 18 above num × (den ≡ 1)
AreParts above (mark ∷ below) num den = (((mark ≡ 47) ⊎ (mark ≡ 58)) × IsQuotient above below num den) ⊎ ((mark ≡ 46) × IsDecimal above below num den)

-- the text begins with the parts of a unit, if any, and the rest follows them
pub record BeginsFraction (text : List ℕ) (part scale : ℕ) (rest : List ℕ) : Type 0 where
  pub fraction : List ℕ
  pub text_is : text ≡ fraction ++ rest
  pub is_fraction : IsFraction fraction part scale

-- no digit and no point begins the text
abbrev pub EndsFraction : List ℕ → Type 0
EndsFraction rest = Stops (λ c. is_digit c || c == 46) rest

abbrev pub IsSixtieth : List ℕ → ℕ → Type 0
IsSixtieth text n = IsNumber 2 2 text n × (n < 60)

-- a clock of these hours, whose minutes are this text, and whose seconds begin the text after them
pub record IsClockOf (hours : ℕ) (minute behind : List ℕ) (size : ℕ) : Type 0 where
  pub second : List ℕ
  pub rest : List ℕ
  pub minutes : ℕ
  pub seconds : ℕ
  pub part : ℕ
  pub scale : ℕ
  pub behind_is : behind ≡ second ++ rest
  pub is_minute : IsSixtieth minute minutes
  pub is_second : IsSixtieth second seconds
  pub is_fraction : IsFraction rest part scale
  pub size_is : size ≡ micros 1_000_000 ((hours * 60 + minutes) * 60 + seconds) part scale
