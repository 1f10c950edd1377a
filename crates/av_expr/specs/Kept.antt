-- A tree as the list of its nodes, each after its parts.
use Rattle.std.specs.Prelude.{◌≡◌, ◌≤◌, ◌+◌, ◌-◌, ◌==◌, max, cond, ℕ, ℤ, pos, List, [], ◌∷◌, ◌++◌, get_or}
use Rattle.std.proofs.Common.{refl, ap, ◌∙◌}
use Rattle.std.specs.Coded.{Coded, code_by, coded×, coded_ℕ, coded_ℤ, coded_list}
use Rattle.av_expr.specs.Vars.{order}
use Rattle.av_expr.specs.Trees.{Tree, Number, Variable, Negation, Binary, postfix, HasLowest}
use Rattle.av_expr.specs.declared.vars.Var.TheVariants.{InW, InH, OutW, OutH, Hsub, Vsub, MainW, MainH, OverW, OverH, Val, MinVal, MaxVal, NegVal, Pts, StartPts, N, Tb}
use Rattle.av_expr.specs.declared.fraction.Operator.TheVariants.{Plus, Minus, Times, Over}
use Rattle.av_expr.specs.declared.expr.Node.{Node}
use Rattle.av_expr.specs.declared.expr.Node.TheVariants as node

-- a row of trees after one more node, the latest tree first
abbrev pub joined : Node → List Tree → List Tree
joined (node.Number f) row = Number f ∷ row
joined (node.Variable x) row = Variable x ∷ row
joined node.Negation [] = []
joined node.Negation (t ∷ row) = Negation t ∷ row
joined (node.Binary op) [] = []
joined (node.Binary op) (t ∷ []) = []
joined (node.Binary op) (t ∷ s ∷ row) = Binary op s t ∷ row

abbrev pub built : List Node → List Tree → List Tree
built [] row = row
built (n ∷ ns) row = built ns (joined n row)

abbrev pub latest : List Tree → Tree
latest [] = Variable N
latest (t ∷ row) = t

-- the tree whose nodes these are
abbrev pub tree_of : List Node → Tree
tree_of ns = latest (built ns [])

-- how many values are kept at a time while the tree is evaluated
abbrev pub width : Tree → ℕ
width (Number f) = 1
width (Variable x) = 1
width (Negation t) = width t
width (Binary op s t) = max (width s) (width t + 1)

-- ---- a tree can be stored: its nodes determine it, and three numbers a node

abbrev pub node_numbers : Node → ℕ × (ℤ × ℤ)
node_numbers (node.Number f) = (0, (f.num, f.den))
node_numbers (node.Variable x) = (order x + 6, (pos 0, pos 0))
node_numbers node.Negation = (1, (pos 0, pos 0))
node_numbers (node.Binary Plus) = (2, (pos 0, pos 0))
node_numbers (node.Binary Minus) = (3, (pos 0, pos 0))
node_numbers (node.Binary Times) = (4, (pos 0, pos 0))
node_numbers (node.Binary Over) = (5, (pos 0, pos 0))

abbrev pub plain_nodes : List Node
plain_nodes =
    node.Negation ∷ node.Binary Plus ∷ node.Binary Minus ∷ node.Binary Times ∷ node.Binary Over
    ∷ node.Variable InW ∷ node.Variable InH ∷ node.Variable OutW ∷ node.Variable OutH ∷ node.Variable Hsub ∷ node.Variable Vsub
    ∷ node.Variable MainW ∷ node.Variable MainH ∷ node.Variable OverW ∷ node.Variable OverH
    ∷ node.Variable Val ∷ node.Variable MinVal ∷ node.Variable MaxVal ∷ node.Variable NegVal
    ∷ node.Variable Pts ∷ node.Variable StartPts ∷ node.Variable N ∷ node.Variable Tb ∷ []

abbrev pub numbered_node : ℕ × (ℤ × ℤ) → Node
numbered_node n = cond (n.0 == 0) (node.Number (record { num = n.1.0; den = n.1.1 })) (get_or plain_nodes (n.0 - 1) node.Negation)

pub node_back : (n : Node) → numbered_node (node_numbers n) ≡ n
node_back (node.Number f) = refl
node_back (node.Variable InW) = refl
node_back (node.Variable InH) = refl
node_back (node.Variable OutW) = refl
node_back (node.Variable OutH) = refl
node_back (node.Variable Hsub) = refl
node_back (node.Variable Vsub) = refl
node_back (node.Variable MainW) = refl
node_back (node.Variable MainH) = refl
node_back (node.Variable OverW) = refl
node_back (node.Variable OverH) = refl
node_back (node.Variable Val) = refl
node_back (node.Variable MinVal) = refl
node_back (node.Variable MaxVal) = refl
node_back (node.Variable NegVal) = refl
node_back (node.Variable Pts) = refl
node_back (node.Variable StartPts) = refl
node_back (node.Variable N) = refl
node_back (node.Variable Tb) = refl
node_back node.Negation = refl
node_back (node.Binary Plus) = refl
node_back (node.Binary Minus) = refl
node_back (node.Binary Times) = refl
node_back (node.Binary Over) = refl

pub built_append : (xs ys : List Node) (row : List Tree) → built (xs ++ ys) row ≡ built ys (built xs row)
built_append [] ys row = refl
built_append (x ∷ xs) ys row = built_append xs ys (joined x row)

-- the nodes of a tree build it
pub built_tree : (t : Tree) (row : List Tree) → built (postfix t) row ≡ t ∷ row
built_tree (Number f) row = refl
built_tree (Variable x) row = refl
built_tree (Negation t) row = built_append (postfix t) (node.Negation ∷ []) row ∙ ap (built (node.Negation ∷ [])) (built_tree t row)
built_tree (Binary op s t) row =
    built_append (postfix s) (postfix t ++ node.Binary op ∷ []) row
    ∙ ap (built (postfix t ++ node.Binary op ∷ [])) (built_tree s row)
    ∙ built_append (postfix t) (node.Binary op ∷ []) (s ∷ row)
    ∙ ap (built (node.Binary op ∷ [])) (built_tree t (s ∷ row))

pub tree_back : (t : Tree) → tree_of (postfix t) ≡ t
tree_back t = ap latest (built_tree t [])

abbrev pub tree_code : Coded Tree
tree_code = code_by (List Node) (coded_list (code_by (ℕ × (ℤ × ℤ)) (coded× coded_ℕ (coded× coded_ℤ coded_ℤ)) node_numbers numbered_node node_back)) postfix tree_of tree_back

-- the list has the nodes of a tree, and no others
pub record IsKept (ns : List Node) : Type 0 where
  pub whole : postfix (tree_of ns) ≡ ns
  pub narrow : width (tree_of ns) ≤ 131
  pub lowest : HasLowest (tree_of ns)
