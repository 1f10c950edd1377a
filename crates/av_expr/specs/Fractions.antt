-- Exact fractions, and what operators make of them.
use Rattle.std.specs.Prelude.{◌≡◌, ◌≢◌, ◌<◌, ◌≤◌, ◌+◌, ◌*◌, ◌%◌, ◌⊎◌, ℕ, ℤ, pos, neg_ℤ, ◌+ℤ◌, ◌-ℤ◌, ◌*ℤ◌, ◌≤ℤ◌, ◌<ℤ◌, unsigned_abs, FitsSigned, List, [], ◌∷◌}
use Rattle.std.specs.List.{AllByRecursion}
use Rattle.std.specs.Int.{IsGcd, w128}
use Rattle.av_expr.specs.declared.fraction.Fraction.{Fraction}
use Rattle.av_expr.specs.declared.fraction.Operator.{Operator}
use Rattle.av_expr.specs.declared.fraction.Operator.TheVariants.{Plus, Minus, Times, Over}
use Rattle.av_expr.specs.declared.fault.NoValue.{NoValue}
use Rattle.av_expr.specs.declared.fault.NoValue.TheVariants.{Overflow, DivisionByZero}

-- an i128 holds this number
abbrev pub Fits : ℤ → Type 0
Fits z = FitsSigned w128 z

abbrev pub AreFitting : Fraction → Type 0
AreFitting f = Fits f.num × Fits f.den

-- the parts have no common divisor, and the lower one is positive
pub record IsLowest (f : Fraction) : Type 0 where
  pub positive : pos 0 <ℤ f.den
  pub coprime : IsGcd (unsigned_abs f.num) (unsigned_abs f.den) 1

abbrev pub zero_fraction : Fraction
zero_fraction = record { num = pos 0; den = pos 1 }

-- the fraction of two numbers in lowest terms: their greatest common divisor was taken out of both, with the sign that
-- makes the denominator positive
pub record IsReduced (num den : ℤ) (f : Fraction) : Type 0 where
  pub divisor : ℤ
  pub greatest : IsGcd (unsigned_abs num) (unsigned_abs den) (unsigned_abs divisor)
  pub num_is : f.num *ℤ divisor ≡ num
  pub den_is : f.den *ℤ divisor ≡ den
  pub positive : pos 0 <ℤ f.den
  pub defined : den ≢ pos 0

-- the whole number of a fraction without what is after the point: it is rounded towards zero
pub record IsCut (f : Fraction) (z : ℤ) : Type 0 where
  pub within : unsigned_abs z * unsigned_abs f.den ≤ unsigned_abs f.num
  pub next : unsigned_abs f.num < (unsigned_abs z + 1) * unsigned_abs f.den
  pub up : pos 0 ≤ℤ f.num → pos 0 ≤ℤ z
  pub down : f.num ≤ℤ pos 0 → z ≤ℤ pos 0

-- the whole number that is nearest to a fraction; of two that are as near, the even one
pub record IsNearest (f : Fraction) (z : ℤ) : Type 0 where
  pub near : 2 * unsigned_abs (f.num -ℤ z *ℤ f.den) ≤ unsigned_abs f.den
  pub even : 2 * unsigned_abs (f.num -ℤ z *ℤ f.den) ≡ unsigned_abs f.den → unsigned_abs z % 2 ≡ 0

-- n is the nearest to a / b; of two that are as near, the even one
pub record IsNearestQuotient (a b n : ℕ) : Type 0 where
  pub below : 2 * a ≤ 2 * (n * b) + b
  pub above : 2 * (n * b) ≤ 2 * a + b
  pub even_below : 2 * a ≡ 2 * (n * b) + b → n % 2 ≡ 0
  pub even_above : 2 * (n * b) ≡ 2 * a + b → n % 2 ≡ 0

-- ---- operators

-- the parts of the result before it is reduced: of `a/b + c/d` they are `a*d + c*b` and `b*d`
abbrev pub above : Operator → Fraction → Fraction → ℤ
above Plus a b = a.num *ℤ b.den +ℤ b.num *ℤ a.den
above Minus a b = a.num *ℤ b.den -ℤ b.num *ℤ a.den
above Times a b = a.num *ℤ b.num
above Over a b = a.num *ℤ b.den

abbrev pub below : Operator → Fraction → Fraction → ℤ
below Plus a b = a.den *ℤ b.den
below Minus a b = a.den *ℤ b.den
below Times a b = a.den *ℤ b.den
below Over a b = a.den *ℤ b.num

-- all products and sums that are made before the result is reduced
abbrev pub made : Operator → Fraction → Fraction → List ℤ
made Plus a b = (a.num *ℤ b.den) ∷ (b.num *ℤ a.den) ∷ above Plus a b ∷ below Plus a b ∷ []
made Minus a b = (a.num *ℤ b.den) ∷ (b.num *ℤ a.den) ∷ above Minus a b ∷ below Minus a b ∷ []
made Times a b = above Times a b ∷ below Times a b ∷ []
made Over a b = above Over a b ∷ below Over a b ∷ []

abbrev pub DividesByZero : Operator → Fraction → Type 0
DividesByZero op b = (op ≡ Over) × (b.num ≡ pos 0)

-- the operator makes this fraction of two
pub record IsStep (op : Operator) (a b f : Fraction) : Type 0 where
  pub divides : ¬ DividesByZero op b
  pub fits : AllByRecursion Fits (made op a b)
  pub reduced : IsReduced (above op a b) (below op a b) f
  pub fitting : AreFitting f

-- a product or a sum leaves i128, or only the change of both signs does
abbrev pub Overflows : Operator → Fraction → Fraction → Type 0
Overflows op a b = (¬ AllByRecursion Fits (made op a b)) ⊎ ((f : Fraction) × IsReduced (above op a b) (below op a b) f × ¬ AreFitting f)

-- the operator makes nothing of two
abbrev pub NoStep : Operator → Fraction → Fraction → NoValue → Type 0
NoStep op a b DivisionByZero = DividesByZero op b
NoStep op a b Overflow = (¬ DividesByZero op b) × Overflows op a b

-- the fraction with the other sign
pub record IsNegated (a f : Fraction) : Type 0 where
  pub num_is : f.num ≡ neg_ℤ a.num
  pub den_is : f.den ≡ a.den
  pub fits : Fits f.num

abbrev pub NoNegation : Fraction → NoValue → Type 0
NoNegation a DivisionByZero = ⊥
NoNegation a Overflow = ¬ Fits (neg_ℤ a.num)
