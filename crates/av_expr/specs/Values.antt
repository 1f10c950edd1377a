-- The value of a tree, for a list of its variables' values. Parts are evaluated from left to right.
use Rattle.std.specs.Prelude.{◌≡◌, ◌≢◌, ◌⊎◌, ℤ, pos, neg_ℤ, ◌+ℤ◌, ◌-ℤ◌, ◌*ℤ◌, List, get_or}
use Rattle.av_expr.specs.Vars.{order}
use Rattle.av_expr.specs.Fractions.{IsLowest, zero_fraction, IsStep, NoStep, IsNegated, NoNegation}
use Rattle.av_expr.specs.Trees.{Tree, Number, Variable, Negation, Binary}
use Rattle.av_expr.specs.declared.vars.Var.{Var}
use Rattle.av_expr.specs.declared.fraction.Fraction.{Fraction}
use Rattle.av_expr.specs.declared.fraction.Operator.{Operator}
use Rattle.av_expr.specs.declared.fraction.Operator.TheVariants.{Plus, Minus, Times, Over}
use Rattle.av_expr.specs.declared.fault.NoValue.{NoValue}

-- the value of a variable
abbrev pub value_of : List Fraction → Var → Fraction
value_of values x = get_or values (order x) zero_fraction

-- the value of each variable is in lowest terms
abbrev pub AreLowest : List Fraction → Type 0
AreLowest values = (x : Var) → IsLowest (value_of values x)

-- the tree has this value
abbrev pub IsValue : List Fraction → Tree → Fraction → Type 0
IsValue values (Number f) v = v ≡ f
IsValue values (Variable x) v = v ≡ value_of values x
IsValue values (Negation t) v = (a : Fraction) × IsValue values t a × IsNegated a v
IsValue values (Binary op s t) v = (a b : Fraction) × IsValue values s a × IsValue values t b × IsStep op a b v

-- the tree has no value: this is the first reason, from left to right
abbrev pub HasNone : List Fraction → Tree → NoValue → Type 0
HasNone values (Number f) reason = ⊥
HasNone values (Variable x) reason = ⊥
HasNone values (Negation t) reason = HasNone values t reason ⊎ ((a : Fraction) × IsValue values t a × NoNegation a reason)
HasNone values (Binary op s t) reason = HasNone values s reason
    ⊎ (((a : Fraction) × IsValue values s a × HasNone values t reason)
    ⊎ ((a b : Fraction) × IsValue values s a × IsValue values t b × NoStep op a b reason))

-- ---- the rational number that a tree denotes, as a numerator and a denominator that no one reduces

abbrev pub Joins : Operator → ℤ → ℤ → ℤ → ℤ → ℤ → ℤ → Type 0
Joins Plus a b c d p q = (p ≡ a *ℤ d +ℤ c *ℤ b) × (q ≡ b *ℤ d)
Joins Minus a b c d p q = (p ≡ a *ℤ d -ℤ c *ℤ b) × (q ≡ b *ℤ d)
Joins Times a b c d p q = (p ≡ a *ℤ c) × (q ≡ b *ℤ d)
Joins Over a b c d p q = (c ≢ pos 0) × (p ≡ a *ℤ d) × (q ≡ b *ℤ c)

abbrev pub Denotes : List Fraction → Tree → ℤ → ℤ → Type 0
Denotes values (Number f) p q = (p ≡ f.num) × (q ≡ f.den)
Denotes values (Variable x) p q = (p ≡ (value_of values x).num) × (q ≡ (value_of values x).den)
Denotes values (Negation t) p q = (a : ℤ) × Denotes values t a q × (p ≡ neg_ℤ a)
Denotes values (Binary op s t) p q = (a b c d : ℤ) × Denotes values s a b × Denotes values t c d × Joins op a b c d p q
