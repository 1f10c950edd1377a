-- Whole texts: one sum, with at most 64 levels of signs and parentheses open at a place.
use Rattle.std.specs.Prelude.{◌≡◌, ◌<◌, ◌+◌, ℕ, List, [], length}
use Rattle.av_expr.specs.Trees.{Tree}
use Rattle.av_text.specs.Parts.{NoPart, Skips, Either}
use Rattle.av_expr.specs.Grammar.{IsUnary, NoUnary, IsSum, NoSum}
use Rattle.av_expr.specs.declared.vars.VarSet.{VarSet}
use Rattle.av_expr.specs.declared.fault.ExprKind.{ExprKind}
use Rattle.av_expr.specs.declared.fault.ExprKind.TheVariants.{Syntax}
use Rattle.av_expr.specs.declared.fault.ExprFault.{ExprFault}

-- the text says this tree
pub record IsExpr (allowed : VarSet) (text : List ℕ) (tree : Tree) : Type 0 where
  pub start : List ℕ
  pub skips : Skips text start
  pub is_sum : IsSum (IsUnary allowed 64) start tree []

-- the text goes on after its sum
abbrev pub IsBehind : NoPart ExprKind
IsBehind text kind bad = (kind ≡ Syntax) × (bad ≡ text) × (0 < length text)

-- the text says no tree: the kind of its fault, and the text from its byte on
pub record IsExprFault (allowed : VarSet) (text : List ℕ) (kind : ExprKind) (bad : List ℕ) : Type 0 where
  pub start : List ℕ
  pub skips : Skips text start
  pub fails : Either (IsSum (IsUnary allowed 64)) (NoSum (IsUnary allowed 64) (NoUnary allowed 64)) IsBehind start kind bad

-- the fault is of this kind, and `bad` is the text from its byte on
pub record IsFaultAt (text : List ℕ) (kind : ExprKind) (bad : List ℕ) (f : ExprFault) : Type 0 where
  pub kind_is : f.kind ≡ kind
  pub at_is : f.at + length bad ≡ length text
