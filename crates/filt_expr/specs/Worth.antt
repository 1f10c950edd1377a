-- Expressions as options, and the value of one at given values of its variables.
use Rattle.std.specs.Prelude.{◌<◌, ◌^◌, ℕ, ℤ, pos, List, [], ◌∷◌, length}
use Rattle.av_filter.specs.Forms.{Form}
use Rattle.av_expr.specs.Vars.{together}
use Rattle.av_expr.specs.Exprs.{IsExpr}
use Rattle.av_expr.specs.declared.vars.VarSet.{VarSet}
use Rattle.av_expr.specs.Trees.{Tree}
use Rattle.av_expr.specs.Values.{IsValue, HasNone}
use Rattle.av_expr.specs.declared.vars.Var.{Var}
use Rattle.av_expr.specs.declared.vars.Var.TheVariants.{InW, InH, OutW, OutH, Hsub, Vsub, MainW, MainH, OverW, OverH, Val, MinVal, MaxVal, NegVal, Pts, StartPts, N, Tb}
use Rattle.av_expr.specs.declared.fraction.Fraction.{Fraction}
use Rattle.av_expr.specs.declared.fault.NoValue.{NoValue}
use Rattle.filt_expr.specs.declared.worth.Role.{Role}
use Rattle.filt_expr.specs.declared.worth.Role.TheVariants.{Width, Height, Place, Sample}

-- ---- options

-- the set of these variables
abbrev pub set_of : List Var → VarSet
set_of vars = record { bits = together vars }

-- the variables that an expression may have
abbrev pub vars_of : Role → List Var
vars_of Width = InW ∷ InH ∷ Hsub ∷ Vsub ∷ []
vars_of Height = InW ∷ InH ∷ Hsub ∷ Vsub ∷ OutW ∷ []
vars_of Place = InW ∷ InH ∷ Hsub ∷ Vsub ∷ OutW ∷ OutH ∷ []
vars_of Sample = Val ∷ MinVal ∷ MaxVal ∷ NegVal ∷ []

-- the text, of fewer than 2^32 bytes, means this expression
pub record MeansExpr (role : Role) (text : List ℕ) (tree : Tree) : Type 0 where
  pub short : length text < 2 ^ 32
  pub is : IsExpr (set_of (vars_of role)) text tree

-- an option that takes expressions
abbrev pub expr_form : {O : Type 0} → Role → List ℕ → (O → Tree) → Form O
expr_form {O} role default value = record { Value = Tree; means = MeansExpr role; default = default; value = value }

-- ---- values

-- a whole number as a fraction
abbrev pub whole : ℤ → Fraction
whole z = record { num = z; den = pos 1 }

-- the values of the variables, in their order
abbrev pub listed : (Var → Fraction) → List Fraction
listed f = f InW ∷ f InH ∷ f OutW ∷ f OutH ∷ f Hsub ∷ f Vsub ∷ f MainW ∷ f MainH ∷ f OverW ∷ f OverH ∷ f Val ∷ f MinVal ∷ f MaxVal ∷ f NegVal ∷ f Pts ∷ f StartPts ∷ f N ∷ f Tb ∷ []

-- the expression has this value
abbrev pub IsWorth : Tree → (Var → Fraction) → Fraction → Type 0
IsWorth tree variables v = IsValue (listed variables) tree v

-- the expression has no value
abbrev pub IsWorthless : Tree → (Var → Fraction) → Type 0
IsWorthless tree variables = (reason : NoValue) × HasNone (listed variables) tree reason
