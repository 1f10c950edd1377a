-- Evaluation of a tree by its list of nodes.
use Rattle.std.proofs.Common.{◌≡◌, ◌≤◌, ◌+◌, suc, List, [], ◌∷◌, ◌++◌, length, refl, sym, ap, subst, arith, inl, inr, append_assoc, ◌⊎◌}
use Rattle.std.specs.List.{AllByRecursion}
use Rattle.std.proofs.lemmas.List.{append-nil}
use Rattle.av_expr.specs.Fractions.{IsLowest}
use Rattle.av_expr.specs.Trees.{Tree, Number, Variable, Negation, Binary, postfix, HasLowest}
use Rattle.av_expr.specs.Kept.{joined, width}
use Rattle.av_expr.specs.Values.{AreLowest, IsValue, HasNone}
use Rattle.av_expr.specs.Nodes.{HasRoom, IsNodeFault}
use Rattle.av_expr.specs.declared.fraction.Fraction.{Fraction}
use Rattle.av_expr.specs.declared.expr.Node.{Node}
use Rattle.av_expr.specs.declared.expr.Node.TheVariants as node
use Rattle.av_expr.specs.declared.fault.NoValue.{NoValue}
use Rattle.av_expr.proofs.FractionLemmas.{reduced_lowest, negated_lowest}
use Rattle.av_base.proofs.Lists.{cons_parts}

-- ---- values are in lowest terms

pub value_lowest : (values : List Fraction) (t : Tree) (v : Fraction) → AreLowest values → HasLowest t → IsValue values t v → IsLowest v
value_lowest values (Number f) v all lowest h = subst IsLowest (sym h) lowest
value_lowest values (Variable x) v all lowest h = subst IsLowest (sym h) (all x)
value_lowest values (Negation t) v all lowest h = negated_lowest h.2 (value_lowest values t h.0 all lowest h.1)
value_lowest values (Binary op s t) v all lowest h = reduced_lowest h.4.reduced

-- ---- rows of trees

abbrev pub NumberLowest : Node → Type 0
NumberLowest (node.Number f) = IsLowest f
NumberLowest (node.Variable x) = Unit {0}
NumberLowest node.Negation = Unit {0}
NumberLowest (node.Binary op) = Unit {0}

-- these nodes make the tree out of a row of trees, and the row never grows too long
abbrev pub Builds : List Tree → List Node → Tree → Type 0
Builds row [] goal = row ≡ goal ∷ []
Builds row (n ∷ ns) goal = HasRoom n (length row) × NumberLowest n × Builds (joined n row) ns goal

some_width : (t : Tree) → 1 ≤ width t
some_width (Number f) = omega arith
some_width (Variable x) = omega arith
some_width (Negation t) = some_width t
some_width (Binary op s t) = let a = some_width s in omega arith

builds_tree : (t : Tree) (row : List Tree) (rest : List Node) (goal : Tree) → length row + width t ≤ 131 → HasLowest t → Builds (t ∷ row) rest goal → Builds row (postfix t ++ rest) goal
builds_tree (Number f) row rest goal fits lowest h = (omega arith, lowest, h)
builds_tree (Variable x) row rest goal fits lowest h = (omega arith, tt, h)
builds_tree (Negation t) row rest goal fits lowest h =
    let some = some_width t in
    rw (append_assoc (postfix t) (node.Negation ∷ []) rest) (builds_tree t row (node.Negation ∷ rest) goal fits lowest ((omega arith, omega arith), tt, h))
builds_tree (Binary op s t) row rest goal fits lowest h =
    let some = some_width t in
    rw (append_assoc (postfix s) (postfix t ++ node.Binary op ∷ []) rest, append_assoc (postfix t) (node.Binary op ∷ []) rest)
    (builds_tree s row (postfix t ++ node.Binary op ∷ rest) goal (omega arith) lowest.0
    (builds_tree t (s ∷ row) (node.Binary op ∷ rest) goal (omega arith) lowest.1 ((omega arith, omega arith), tt, h)))

pub builds_whole : (t : Tree) → width t ≤ 131 → HasLowest t → Builds [] (postfix t) t
builds_whole t fits lowest = rw append-nil at (builds_tree t [] [] t (omega arith) lowest refl)

-- ---- rows of values

-- each tree has its value in the row
abbrev pub AreWorth : List Fraction → List Tree → List Fraction → Type 0
AreWorth values [] [] = Unit {0}
AreWorth values [] (v ∷ row) = ⊥
AreWorth values (t ∷ trees) [] = ⊥
AreWorth values (t ∷ trees) (v ∷ row) = HasLowest t × IsValue values t v × AreWorth values trees row

pub worth_length : (values : List Fraction) (trees : List Tree) (row : List Fraction) → AreWorth values trees row → length trees ≡ length row
worth_length values [] [] h = refl
worth_length values [] (v ∷ row) h = absurd h
worth_length values (t ∷ trees) [] h = absurd h
worth_length values (t ∷ trees) (v ∷ row) h = ap suc (worth_length values trees row h.2)

pub worth_lowest : (values : List Fraction) (trees : List Tree) (row : List Fraction) → AreLowest values → AreWorth values trees row → AllByRecursion IsLowest row
worth_lowest values [] [] all h = tt
worth_lowest values [] (v ∷ row) all h = absurd h
worth_lowest values (t ∷ trees) [] all h = absurd h
worth_lowest values (t ∷ trees) (v ∷ row) all h = (value_lowest values t v all h.0 h.1, worth_lowest values trees row all h.2)

-- the first of a row of values, and the rest, with the first of a row of trees
worth_first : (values : List Fraction) (trees : List Tree) (row rest : List Fraction) (a : Fraction) → AreWorth values trees row → row ≡ a ∷ rest
    → (t : Tree) × (others : List Tree) × (trees ≡ t ∷ others) × HasLowest t × IsValue values t a × AreWorth values others rest
worth_first values [] [] rest a h same = absurd (omega (arith, ap length same))
worth_first values [] (v ∷ row) rest a h same = absurd h
worth_first values (t ∷ trees) [] rest a h same = absurd h
worth_first values (t ∷ trees) (v ∷ row) rest a h same =
    let parts = cons_parts same in (t, trees, refl, h.0, subst (IsValue values t) parts.0 h.1, subst (AreWorth values trees) parts.1 h.2)

-- ---- a row in which a tree has no value

abbrev Valued : List Fraction → List Tree → Type 0
Valued values [] = Unit {0}
Valued values (t ∷ trees) = ((v : Fraction) × IsValue values t v) × Valued values trees

-- one tree has no value, and those before it, which are after it in the row, have
abbrev Fails : List Fraction → NoValue → List Tree → Type 0
Fails values reason [] = ⊥
Fails values reason (t ∷ trees) = (HasNone values t reason × Valued values trees) ⊎ Fails values reason trees

worth_valued : (values : List Fraction) (trees : List Tree) (row : List Fraction) → AreWorth values trees row → Valued values trees
worth_valued values [] [] h = tt
worth_valued values [] (v ∷ row) h = absurd h
worth_valued values (t ∷ trees) [] h = absurd h
worth_valued values (t ∷ trees) (v ∷ row) h = ((v, h.1), worth_valued values trees row h.2)

fails_joined : (values : List Fraction) (reason : NoValue) (n : Node) (trees : List Tree) → HasRoom n (length trees) → Fails values reason trees → Fails values reason (joined n trees)
fails_joined values reason (node.Number f) trees room h = inr h
fails_joined values reason (node.Variable x) trees room h = inr h
fails_joined values reason node.Negation [] room h = h
fails_joined values reason node.Negation (t ∷ trees) room (inl h) = inl (inl h.0, h.1)
fails_joined values reason node.Negation (t ∷ trees) room (inr h) = inr h
fails_joined values reason (node.Binary op) [] room h = h
fails_joined values reason (node.Binary op) (t ∷ []) room h = absurd (let few = room.0 in omega arith)
fails_joined values reason (node.Binary op) (t ∷ s ∷ trees) room (inl h) = inl (inr (inl (h.1.0.0, h.1.0.1, h.0)), h.1.1)
fails_joined values reason (node.Binary op) (t ∷ s ∷ trees) room (inr (inl h)) = inl (inl h.0, h.1)
fails_joined values reason (node.Binary op) (t ∷ s ∷ trees) room (inr (inr h)) = inr h

-- then what is made of the row has no value
fails_whole : (values : List Fraction) (reason : NoValue) (ns : List Node) (trees : List Tree) (goal : Tree) → Builds trees ns goal → Fails values reason trees → HasNone values goal reason
fails_whole values reason [] trees goal builds h = elim (subst (Fails values reason) builds h) [
  | inl first ↦ first.0
  | inr none ↦ absurd none
]
fails_whole values reason (n ∷ ns) trees goal builds h = fails_whole values reason ns (joined n trees) goal builds.2 (fails_joined values reason n trees builds.0 h)

fault_fails : (values : List Fraction) (reason : NoValue) (n : Node) (trees : List Tree) (row : List Fraction) → AreWorth values trees row → IsNodeFault values n row reason → Fails values reason (joined n trees)
fault_fails values reason (node.Number f) trees row h fault = absurd fault
fault_fails values reason (node.Variable x) trees row h fault = absurd fault
fault_fails values reason node.Negation trees row h fault =
    let first = worth_first values trees row fault.1 fault.0 h fault.2 in
    rw first.2 (inl (inr (fault.0, first.4, fault.3), worth_valued values first.1 fault.1 first.5))
fault_fails values reason (node.Binary op) trees row h fault =
    let first = worth_first values trees row (fault.0 ∷ fault.2) fault.1 h fault.3 in
    let second = worth_first values first.1 (fault.0 ∷ fault.2) fault.2 fault.0 first.5 refl in
    rw (first.2, second.2) (inl (inr (inr (fault.0, fault.1, second.4, first.4, fault.4)), worth_valued values second.1 fault.2 second.5))

pub fault_whole : (values : List Fraction) (reason : NoValue) (n : Node) (ns : List Node) (trees : List Tree) (row : List Fraction) (goal : Tree)
    → AreWorth values trees row → Builds trees (n ∷ ns) goal → IsNodeFault values n row reason → HasNone values goal reason
fault_whole values reason n ns trees row goal h builds fault = fails_whole values reason ns (joined n trees) goal builds.2 (fault_fails values reason n trees row h fault)
