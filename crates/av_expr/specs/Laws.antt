-- A text is one expression or has one fault; a tree has one value or one reason that it has none; and a value is the
-- rational number that the tree denotes.
use Rattle.std.specs.Prelude.{◌≡◌, ◌≢◌, ◌⊎◌, ℕ, ℤ, pos, ◌*ℤ◌, List}
use Rattle.av_expr.specs.Fractions.{IsLowest}
use Rattle.av_expr.specs.Trees.{Tree, HasLowest}
use Rattle.av_expr.specs.Values.{AreLowest, IsValue, HasNone, Denotes}
use Rattle.av_expr.specs.Exprs.{IsExpr, IsExprFault}
use Rattle.av_expr.specs.declared.vars.VarSet.{VarSet}
use Rattle.av_expr.specs.declared.fraction.Fraction.{Fraction}
use Rattle.av_expr.specs.declared.fault.NoValue.{NoValue}
use Rattle.av_expr.specs.declared.fault.ExprKind.{ExprKind}

pub record ExpressionsHaveOneReading : Type 0 where
  pub one_tree : (allowed : VarSet) (text : List ℕ) (a b : Tree) → IsExpr allowed text a → IsExpr allowed text b → a ≡ b
  pub one_fault : (allowed : VarSet) (text r s : List ℕ) (k l : ExprKind) → IsExprFault allowed text k r → IsExprFault allowed text l s → (k ≡ l) × (r ≡ s)
  pub not_both : (allowed : VarSet) (text s : List ℕ) (a : Tree) (k : ExprKind) → IsExpr allowed text a → IsExprFault allowed text k s → ⊥
  pub one_of_both : (allowed : VarSet) (text : List ℕ) → ((tree : Tree) × IsExpr allowed text tree) ⊎ ((kind : ExprKind) × (bad : List ℕ) × IsExprFault allowed text kind bad)
  pub lowest : (allowed : VarSet) (text : List ℕ) (tree : Tree) → IsExpr allowed text tree → HasLowest tree

pub record TreesHaveOneValue : Type 0 where
  pub one_value : (values : List Fraction) (tree : Tree) (v w : Fraction) → IsValue values tree v → IsValue values tree w → v ≡ w
  pub one_reason : (values : List Fraction) (tree : Tree) (r s : NoValue) → HasNone values tree r → HasNone values tree s → r ≡ s
  pub not_both : (values : List Fraction) (tree : Tree) (v : Fraction) (r : NoValue) → IsValue values tree v → HasNone values tree r → ⊥
  pub one_of_both : (values : List Fraction) (tree : Tree) → AreLowest values → HasLowest tree → ((v : Fraction) × IsValue values tree v) ⊎ ((r : NoValue) × HasNone values tree r)
  pub lowest : (values : List Fraction) (tree : Tree) (v : Fraction) → AreLowest values → HasLowest tree → IsValue values tree v → IsLowest v

-- if no step overflows, the value is the rational number that the tree denotes
pub record ValuesAreExact : Type 0 where
  pub one_number : (values : List Fraction) (tree : Tree) (p q r s : ℤ) → Denotes values tree p q → Denotes values tree r s → (p ≡ r) × (q ≡ s)
  pub denotes : (values : List Fraction) (tree : Tree) (v : Fraction) → AreLowest values → HasLowest tree → IsValue values tree v
      → (p q : ℤ) × Denotes values tree p q × (q ≢ pos 0) × (v.num *ℤ q ≡ p *ℤ v.den)
