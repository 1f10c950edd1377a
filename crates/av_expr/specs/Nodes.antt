-- How the nodes of a tree are evaluated one by one, over a row of values of which the first is the latest.
use Rattle.std.specs.Prelude.{◌≡◌, ◌<◌, ◌≤◌, ℕ, List, ◌∷◌}
use Rattle.av_expr.specs.Fractions.{IsStep, NoStep, IsNegated, NoNegation}
use Rattle.av_expr.specs.Values.{value_of}
use Rattle.av_expr.specs.declared.fraction.Fraction.{Fraction}
use Rattle.av_expr.specs.declared.expr.Node.{Node}
use Rattle.av_expr.specs.declared.expr.Node.TheVariants.{Number, Variable, Negation, Binary}
use Rattle.av_expr.specs.declared.fault.NoValue.{NoValue}

-- a row of this length has what the node takes, and room for what it makes
abbrev pub HasRoom : Node → ℕ → Type 0
HasRoom (Number f) n = n < 131
HasRoom (Variable x) n = n < 131
HasRoom Negation n = (1 ≤ n) × (n ≤ 131)
HasRoom (Binary op) n = (2 ≤ n) × (n ≤ 131)

-- the row after the node
abbrev pub IsNodeStep : List Fraction → Node → List Fraction → List Fraction → Type 0
IsNodeStep values (Number f) row next = next ≡ f ∷ row
IsNodeStep values (Variable x) row next = next ≡ value_of values x ∷ row
IsNodeStep values Negation row next = (a v : Fraction) × (rest : List Fraction) × (row ≡ a ∷ rest) × IsNegated a v × (next ≡ v ∷ rest)
IsNodeStep values (Binary op) row next = (a b v : Fraction) × (rest : List Fraction) × (row ≡ b ∷ a ∷ rest) × IsStep op a b v × (next ≡ v ∷ rest)

-- the node makes nothing
abbrev pub IsNodeFault : List Fraction → Node → List Fraction → NoValue → Type 0
IsNodeFault values (Number f) row reason = ⊥
IsNodeFault values (Variable x) row reason = ⊥
IsNodeFault values Negation row reason = (a : Fraction) × (rest : List Fraction) × (row ≡ a ∷ rest) × NoNegation a reason
IsNodeFault values (Binary op) row reason = (a b : Fraction) × (rest : List Fraction) × (row ≡ b ∷ a ∷ rest) × NoStep op a b reason
