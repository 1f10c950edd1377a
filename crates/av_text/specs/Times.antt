-- Times as texts (FFmpeg Utilities Documentation, "Time duration"; the limits of digits are this project's own).
use Rattle.std.specs.Prelude.{◌≡◌, ◌<◌, ◌+◌, ◌*◌, ◌/◌, ◌^◌, ◌++◌, ◌⊎◌, ℕ, ℤ, List, [], ◌∷◌, length, codes}
use Rattle.av_text.specs.Numbers.{IsNumber, IsSigned}

-- what is after the whole units: nothing, or a point and 1 to 18 digits; `part` of `scale` parts of a unit
abbrev pub IsFraction : List ℕ → ℕ → ℕ → Type 0
IsFraction text part scale = ((text ≡ []) × (part ≡ 0) × (scale ≡ 1))
    ⊎ ((digits : List ℕ) × (text ≡ 46 ∷ digits) × IsNumber 1 18 digits part × (scale ≡ 10 ^ length digits))

-- the microseconds in whole units and parts of one; what is finer is cut
abbrev pub micros : ℕ → ℕ → ℕ → ℕ → ℕ
micros unit whole part scale = whole * unit + part * unit / scale

-- `HH:`, of 1 to 9 digits, or nothing
abbrev pub IsHours : List ℕ → ℕ → Type 0
IsHours text hours = ((text ≡ []) × (hours ≡ 0)) ⊎ ((digits : List ℕ) × (text ≡ digits ++ 58 ∷ []) × IsNumber 1 9 digits hours)

-- `[HH:]MM:SS[.m..]`, minutes and seconds of two digits below 60
pub record IsClock (text : List ℕ) (size : ℕ) : Type 0 where
  pub front : List ℕ
  pub minute : List ℕ
  pub second : List ℕ
  pub rest : List ℕ
  pub hours : ℕ
  pub minutes : ℕ
  pub seconds : ℕ
  pub part : ℕ
  pub scale : ℕ
  pub text_is : text ≡ front ++ (minute ++ 58 ∷ (second ++ rest))
  pub is_hours : IsHours front hours
  pub is_minute : IsNumber 2 2 minute minutes
  pub minutes_fit : minutes < 60
  pub is_second : IsNumber 2 2 second seconds
  pub seconds_fit : seconds < 60
  pub is_fraction : IsFraction rest part scale
  pub size_is : size ≡ micros 1_000_000 ((hours * 60 + minutes) * 60 + seconds) part scale

-- the unit that a suffix names, in microseconds, and how many digits may come before the point
pub data IsUnit : List ℕ → ℕ → ℕ → Type 0 where
  none : IsUnit [] 1_000_000 9
  s : IsUnit (codes "s") 1_000_000 9
  ms : IsUnit (codes "ms") 1000 9
  us : IsUnit (codes "us") 1 18

-- `S[.m..]`, with a unit or without one
pub record IsAmount (text : List ℕ) (size : ℕ) : Type 0 where
  pub digits : List ℕ
  pub fraction : List ℕ
  pub suffix : List ℕ
  pub unit : ℕ
  pub most : ℕ
  pub whole : ℕ
  pub part : ℕ
  pub scale : ℕ
  pub text_is : text ≡ digits ++ (fraction ++ suffix)
  pub is_unit : IsUnit suffix unit most
  pub is_whole : IsNumber 1 most digits whole
  pub is_fraction : IsFraction fraction part scale
  pub size_is : size ≡ micros unit whole part scale

-- a time in microseconds, which may have a `-` before it
abbrev pub IsTime : List ℕ → ℤ → Type 0
IsTime text z = (body : List ℕ) × (size : ℕ) × (IsClock body size ⊎ IsAmount body size) × IsSigned text body size z
