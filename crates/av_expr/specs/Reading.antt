-- Places in a text, and what is at one.
use Rattle.std.specs.Prelude.{◌≡◌, ◌+◌, ◌++◌, ◌⊎◌, ◌==◌, ◌||◌, ℕ, true, false, List, ◌∷◌, Option, Some, None, length, drop}
use Rattle.std.specs.Str.{IsCharBoundary}
use Rattle.av_text.specs.Classes.{is_digit, is_name, Stops}
use Rattle.av_expr.specs.Trees.{Tree, postfix}
use Rattle.av_text.specs.Parts.{Part, NoPart, IsPlace}
use Rattle.av_expr.specs.Parts.{NoOperator}
use Rattle.av_expr.specs.Grammar.{opens}
use Rattle.av_expr.specs.declared.expr.Node.{Node}
use Rattle.av_expr.specs.declared.fraction.Operator.{Operator}
use Rattle.av_expr.specs.declared.reader.Opening.{Opening}
use Rattle.av_expr.specs.declared.reader.Opening.TheVariants.{Plus, Minus, Group}
use Rattle.av_expr.specs.declared.reader.Atom.{Atom}
use Rattle.av_expr.specs.declared.reader.Atom.TheVariants.{Number, Name}
use Rattle.av_expr.specs.declared.fault.ExprFault.{ExprFault}
use Rattle.av_expr.specs.declared.fault.ExprKind.{ExprKind}

-- no such part is at a place of the text, and this is the fault
abbrev pub FailsAt : NoPart ExprKind → List ℕ → ℕ → ExprFault → Type 0
FailsAt F text place f = (bad : List ℕ) × F (drop place text) f.kind bad × (f.at + length bad ≡ length text)

-- such a part is at a place and ends at another, and the nodes of its tree were added
pub record IsRead (P : Part Tree) (text : List ℕ) (place : ℕ) (before after : List Node) (end : ℕ) : Type 0 where
  pub tree : Tree
  pub is_part : P (drop place text) tree (drop end text)
  pub added : after ≡ before ++ postfix tree
  pub later : IsPlace text place end

-- this mark is at a place
abbrev pub StandsAt : ℕ → List ℕ → ℕ → Type 0
StandsAt mark text place = (drop place text ≡ mark ∷ drop (place + 1) text) × IsCharBoundary text (place + 1)

-- which operator is at a place, if any is
abbrev pub IsOperatorAt : (ℕ → Option Operator) → List ℕ → ℕ → Option Operator → Type 0
IsOperatorAt ops text place None = NoOperator ops (drop place text)
IsOperatorAt ops text place (Some op) = (mark : ℕ) × (ops mark ≡ Some op) × StandsAt mark text place

-- the mark that opens a level
abbrev pub mark_of : Opening → ℕ
mark_of Plus = 43
mark_of Minus = 45
mark_of Group = 40

-- which level begins at a place, if any does
abbrev pub IsOpeningAt : List ℕ → ℕ → Option Opening → Type 0
IsOpeningAt text place None = Stops opens (drop place text)
IsOpeningAt text place (Some o) = StandsAt (mark_of o) text place

-- the text begins with a digit or a point
abbrev pub BeginsNumber : List ℕ → Type 0
BeginsNumber text = (c : ℕ) × (behind : List ℕ) × (text ≡ c ∷ behind) × ((is_digit c ≡ true) ⊎ (c ≡ 46))

-- the text begins with a letter or `_`
abbrev pub BeginsName : List ℕ → Type 0
BeginsName text = (c : ℕ) × (behind : List ℕ) × (text ≡ c ∷ behind) × (is_name c ≡ true) × (is_digit c ≡ false)

-- which atom begins at a place, if any does
abbrev pub IsAtomAt : List ℕ → ℕ → Option Atom → Type 0
IsAtomAt text place None = Stops (λ c. is_name c || c == 46) (drop place text)
IsAtomAt text place (Some Number) = BeginsNumber (drop place text)
IsAtomAt text place (Some Name) = BeginsName (drop place text)
