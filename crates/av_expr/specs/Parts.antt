-- Parts of a text, one after another. White space after a part belongs to it.
use Rattle.std.specs.Prelude.{◌≡◌, ℕ, List, [], ◌∷◌, Option, Some, None}
use Rattle.av_expr.specs.Trees.{Tree, Binary}
use Rattle.av_expr.specs.declared.fraction.Operator.{Operator}
use Rattle.av_expr.specs.declared.fault.ExprKind.{ExprKind}
use Rattle.av_text.specs.Parts.{Either, NoPart, Part, Skips}

-- the text begins with this mark
abbrev pub IsMark : ℕ → List ℕ → List ℕ → Type 0
IsMark mark text rest = (behind : List ℕ) × (text ≡ mark ∷ behind) × Skips behind rest

-- ---- operators and operands in a row

-- the text begins with one of some operators
abbrev pub IsOperator : (ℕ → Option Operator) → List ℕ → Operator → List ℕ → Type 0
IsOperator ops text op rest = (mark : ℕ) × (ops mark ≡ Some op) × IsMark mark text rest

-- the text begins with none of them
abbrev pub NoOperator : (ℕ → Option Operator) → List ℕ → Type 0
NoOperator ops [] = Unit {0}
NoOperator ops (c ∷ text) = ops c ≡ None

-- operators with their right operands, as many as there are
abbrev pub AreLinks : (ℕ → Option Operator) → Part Tree → List ℕ → List (Operator × Tree) → List ℕ → Type 0
AreLinks ops P text [] rest = (rest ≡ text) × NoOperator ops text
AreLinks ops P text (link ∷ links) rest = (operand behind : List ℕ) × IsOperator ops text link.0 operand × P operand link.1 behind × AreLinks ops P behind links rest

-- after these comes an operator without its right operand
abbrev pub LinksFail : (ℕ → Option Operator) → Part Tree → NoPart ExprKind → List ℕ → List (Operator × Tree) → ExprKind → List ℕ → Type 0
LinksFail ops P F text [] kind bad = (op : Operator) × (operand : List ℕ) × IsOperator ops text op operand × F operand kind bad
LinksFail ops P F text (link ∷ links) kind bad = (operand behind : List ℕ) × IsOperator ops text link.0 operand × P operand link.1 behind × LinksFail ops P F behind links kind bad

abbrev pub NoLinks : (ℕ → Option Operator) → Part Tree → NoPart ExprKind → NoPart ExprKind
NoLinks ops P F text kind bad = (links : List (Operator × Tree)) × LinksFail ops P F text links kind bad

-- operators of one level group from the left
abbrev pub grouped : Tree → List (Operator × Tree) → Tree
grouped tree [] = tree
grouped tree (link ∷ links) = grouped (Binary link.0 tree link.1) links

-- an operand, then operators with their right operands
abbrev pub IsChain : (ℕ → Option Operator) → Part Tree → Part Tree
IsChain ops P text tree rest = (first : Tree) × (links : List (Operator × Tree)) × (behind : List ℕ) × P text first behind × AreLinks ops P behind links rest × (tree ≡ grouped first links)

abbrev pub NoChain : (ℕ → Option Operator) → Part Tree → NoPart ExprKind → NoPart ExprKind
NoChain ops P F = Either P F (NoLinks ops P F)
