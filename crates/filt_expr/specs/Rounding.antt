-- Expressions that are rounded or cut, and sides that fit into others.
use Rattle.std.specs.Prelude.{◌≡◌, ℕ, ℤ, pos, ◌≤ℤ◌, Result, Err}
use Rattle.av_expr.specs.Fractions.{IsNearest, IsCut}
use Rattle.av_expr.specs.Trees.{Tree}
use Rattle.av_expr.specs.declared.vars.Var.{Var}
use Rattle.av_expr.specs.declared.fraction.Fraction.{Fraction}
use Rattle.av_filter.specs.Outcomes.{AfterValue, AfterCheck}
use Rattle.av_frame.specs.declared.refusals.ConfigError.{ConfigError}
use Rattle.av_frame.specs.declared.refusals.ConfigError.TheVariants.{NoValue, BadGeometry}
use Rattle.filt_expr.specs.Worth.{IsWorth, IsWorthless}
use Rattle.filt_expr.specs.Geometry.{on_grid, shown}

-- the value of an expression, rounded to the nearest whole number, and then down to a grid
pub record IsRounded (tree : Tree) (variables : Var → Fraction) (step : ℕ) (z : ℤ) : Type 0 where
  pub value : Fraction
  pub worth : IsWorth tree variables value
  pub near : ℤ
  pub nearest : IsNearest value near
  pub z_is : z ≡ on_grid step near

-- the value of an expression, cut
pub record IsCutValue (tree : Tree) (variables : Var → Fraction) (z : ℤ) : Type 0 where
  pub value : Fraction
  pub worth : IsWorth tree variables value
  pub cut : IsCut value z

-- the step that takes it
abbrev pub AfterCut : {R : Type 0} → Tree → (Var → Fraction) → ℕ → (ℤ → Result R ConfigError → Type 0) → Result R ConfigError → Type 0
AfterCut tree variables option = AfterValue (IsWorthless tree variables) (Err (NoValue option)) (IsCutValue tree variables)

-- a side of the output fits into that of the input, of n samples
abbrev pub FitsIn : ℕ → ℤ → Type 0
FitsIn n z = (pos 1 ≤ℤ z) × (z ≤ℤ pos n)

-- the step that takes the value of an option's expression
abbrev pub AfterRounded : {R : Type 0} → Tree → (Var → Fraction) → ℕ → ℕ → (ℤ → Result R ConfigError → Type 0) → Result R ConfigError → Type 0
AfterRounded tree variables step option = AfterValue (IsWorthless tree variables) (Err (NoValue option)) (IsRounded tree variables step)

-- the step that checks a side
abbrev pub AfterFit : {R : Type 0} → ℕ → ℤ → (Result R ConfigError → Type 0) → Result R ConfigError → Type 0
AfterFit n z = AfterCheck (FitsIn n z) (Err (BadGeometry (shown z) (shown (pos n))))
