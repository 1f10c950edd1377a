-- Syntax trees, and the list of nodes by which one is kept: each node after its parts.
use Rattle.std.specs.Prelude.{List, [], ◌∷◌, ◌++◌}
use Rattle.av_expr.specs.declared.vars.Var.{Var}
use Rattle.av_expr.specs.declared.fraction.Fraction.{Fraction}
use Rattle.av_expr.specs.declared.fraction.Operator.{Operator}
use Rattle.av_expr.specs.declared.expr.Node.{Node}
use Rattle.av_expr.specs.declared.expr.Node.TheVariants as node
use Rattle.av_expr.specs.Fractions.{IsLowest}

pub data Tree : Type 0 where
  Number : Fraction → Tree
  Variable : Var → Tree
  Negation : Tree → Tree
  Binary : Operator → Tree → Tree → Tree

-- the nodes of a tree, each after its parts
abbrev pub postfix : Tree → List Node
postfix (Number f) = node.Number f ∷ []
postfix (Variable x) = node.Variable x ∷ []
postfix (Negation t) = postfix t ++ node.Negation ∷ []
postfix (Binary op s t) = postfix s ++ (postfix t ++ node.Binary op ∷ [])

-- the numbers of a tree are in lowest terms
abbrev pub HasLowest : Tree → Type 0
HasLowest (Number f) = IsLowest f
HasLowest (Variable x) = Unit {0}
HasLowest (Negation t) = HasLowest t
HasLowest (Binary op s t) = HasLowest s × HasLowest t
