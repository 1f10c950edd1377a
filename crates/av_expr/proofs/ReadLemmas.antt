-- How the code reads operands, products and sums.
use Rattle.std.proofs.Common.{◌≡◌, ◌≤◌, ◌+◌, ◌++◌, ℕ, zero, suc, true, List, [], ◌∷◌, Option, Some, drop, length, refl, ◌∙◌, ap, arith, inl, inr, append_assoc}
use Rattle.std.proofs.lemmas.List.{length-drop}
use Rattle.av_expr.specs.Trees.{Tree, Negation, Binary, postfix}
use Rattle.av_text.specs.Parts.{Part, NoPart, Skips}
use Rattle.av_expr.specs.Parts.{IsMark, IsOperator, NoOperator, AreLinks, NoLinks, grouped, IsChain, NoChain}
use Rattle.av_expr.specs.Grammar.{IsAtom, NoAtom, opens, IsSum, NoSum, IsOpen, IsUnary, NoUnary}
use Rattle.av_text.specs.Parts.{IsPlace}
use Rattle.av_expr.specs.Reading.{FailsAt, IsRead, StandsAt, mark_of}
use Rattle.av_expr.specs.declared.vars.VarSet.{VarSet}
use Rattle.av_expr.specs.declared.expr.Node.{Node}
use Rattle.av_expr.specs.declared.expr.Node.TheVariants as node
use Rattle.av_expr.specs.declared.fraction.Operator.{Operator}
use Rattle.av_expr.specs.declared.reader.Opening.{Opening}
use Rattle.av_expr.specs.declared.reader.Opening.TheVariants.{Plus, Minus, Group}
use Rattle.av_expr.specs.declared.fault.ExprKind.{ExprKind}
use Rattle.av_expr.specs.declared.fault.ExprKind.TheVariants.{TooDeep}
use Rattle.av_expr.specs.declared.fault.ExprFault.{ExprFault}

-- what follows a mark, without white space
mark_there : (mark : ℕ) (text : List ℕ) (place next : ℕ) → StandsAt mark text place → Skips (drop (place + 1) text) (drop next text) → IsMark mark (drop place text) (drop next text)
mark_there mark text place next at skips = (drop (place + 1) text, at.0, skips)

-- ---- rows of operands

-- operands were read up to a place: whatever is after it completes them
pub record Chained (ops : ℕ → Option Operator) (P : Part Tree) (F : NoPart ExprKind) (text : List ℕ) (start : ℕ) (before after : List Node) (place : ℕ) : Type 0 where
  pub tree : Tree
  pub added : after ≡ before ++ postfix tree
  pub later : IsPlace text start place
  pub reads : (links : List (Operator × Tree)) (rest : List ℕ) → AreLinks ops P (drop place text) links rest → IsChain ops P (drop start text) (grouped tree links) rest
  pub fails : (kind : ExprKind) (bad : List ℕ) → NoLinks ops P F (drop place text) kind bad → NoChain ops P F (drop start text) kind bad

-- an operator is at a place, and what must be its operand after it
operator_there : (ops : ℕ → Option Operator) (text : List ℕ) (place operand : ℕ) (op : Operator) → (mark : ℕ) × (ops mark ≡ Some op) × StandsAt mark text place → Skips (drop (place + 1) text) (drop operand text)
    → IsOperator ops (drop place text) op (drop operand text)
operator_there ops text place operand op at skips = (at.0, at.1, (drop (place + 1) text, at.2.0, skips))

nodes_added : (before : List Node) (s t : Tree) (op : Operator) (first second third : List Node) → first ≡ before ++ postfix s → second ≡ first ++ postfix t → third ≡ second ++ node.Binary op ∷ []
    → third ≡ before ++ postfix (Binary op s t)
nodes_added before s t op first second third e f g =
    g
    ∙ ap (λ (xs : List Node). xs ++ node.Binary op ∷ []) (f ∙ ap (λ (xs : List Node). xs ++ postfix t) e)
    ∙ append_assoc (before ++ postfix s) (postfix t) (node.Binary op ∷ [])
    ∙ append_assoc before (postfix s) (postfix t ++ node.Binary op ∷ [])

pub chained_more : {ops : ℕ → Option Operator} {P : Part Tree} {F : NoPart ExprKind} {text : List ℕ} {start place operand next : ℕ} {before first second third : List Node} (op : Operator)
    → Chained ops P F text start before first place → (mark : ℕ) × (ops mark ≡ Some op) × StandsAt mark text place → Skips (drop (place + 1) text) (drop operand text) → IsPlace text (place + 1) operand
    → IsRead P text operand first second next → third ≡ second ++ node.Binary op ∷ [] → Chained ops P F text start before third next
chained_more {ops} {P} {F} {text} {start} {place} {operand} {next} {before} {first} {second} {third} op ch at skips after h pushed = record {
  tree = Binary op ch.tree h.tree;
  added = nodes_added before ch.tree h.tree op first second third ch.added h.added pushed;
  later = (let a = ch.later.0 in let b = after.0 in let c = h.later.0 in omega arith, h.later.1);
  reads = λ links rest l. ch.reads ((op, h.tree) ∷ links) rest (drop operand text, drop next text, operator_there ops text place operand op at skips, h.is_part, l);
  fails = λ kind bad l. ch.fails kind bad ((op, h.tree) ∷ l.0, (drop operand text, drop next text, operator_there ops text place operand op at skips, h.is_part, l.1));
}

pub chained_all : {ops : ℕ → Option Operator} {P : Part Tree} {F : NoPart ExprKind} {text : List ℕ} {start place : ℕ} {before after : List Node}
    → Chained ops P F text start before after place → NoOperator ops (drop place text) → IsRead (IsChain ops P) text start before after place
chained_all {ops} {P} {F} {text} {start} {place} {before} {after} ch none = record {
  tree = ch.tree;
  is_part = ch.reads [] (drop place text) (refl, none);
  added = ch.added;
  later = ch.later;
}

pub chained_fault : {ops : ℕ → Option Operator} {P : Part Tree} {F : NoPart ExprKind} {text : List ℕ} {start place : ℕ} {before after : List Node} (operand : ℕ) (op : Operator)
    → Chained ops P F text start before after place → (mark : ℕ) × (ops mark ≡ Some op) × StandsAt mark text place → Skips (drop (place + 1) text) (drop operand text)
    → (f : ExprFault) → FailsAt F text operand f → FailsAt (NoChain ops P F) text start f
chained_fault {ops} {P} {F} {text} {start} {place} {before} {after} operand op ch at skips f h =
    (h.0, ch.fails f.kind h.0 ([], (op, drop operand text, operator_there ops text place operand op at skips, h.1)), h.2)

-- ---- operands

pub unary_atom : (allowed : VarSet) (levels : ℕ) {text : List ℕ} {place end : ℕ} {before after : List Node} → IsRead (IsAtom allowed) text place before after end → IsRead (IsUnary allowed levels) text place before after end
unfolding IsUnary
unary_atom allowed zero h = record { tree = h.tree; is_part = h.is_part; added = h.added; later = h.later }
unary_atom allowed (suc levels) h = record { tree = h.tree; is_part = inl h.is_part; added = h.added; later = h.later }

pub no_unary_atom : (allowed : VarSet) (levels : ℕ) (text : List ℕ) (place : ℕ) (f : ExprFault) → FailsAt (NoAtom allowed) text place f → FailsAt (NoUnary allowed levels) text place f
unfolding NoUnary
no_unary_atom allowed zero text place f h = (h.0, inl h.1, h.2)
no_unary_atom allowed (suc levels) text place f h = (h.0, inl h.1, h.2)

pub unary_plus : (allowed : VarSet) (levels n : ℕ) → levels ≡ suc n → {text : List ℕ} {place inside end : ℕ} {before after : List Node} → StandsAt 43 text place → Skips (drop (place + 1) text) (drop inside text)
    → IsPlace text (place + 1) inside → IsRead (IsUnary allowed n) text inside before after end → IsRead (IsUnary allowed levels) text place before after end
unfolding IsUnary
unary_plus allowed levels n e {text} {place} {inside} {end} {before} {after} at skips behind h = rw e (record {
  tree = h.tree;
  is_part = inr (inl (drop inside text, inl (mark_there 43 text place inside at skips, h.is_part)));
  added = h.added;
  later = (let a = behind.0 in let b = h.later.0 in omega arith, h.later.1);
})

pub unary_minus : (allowed : VarSet) (levels n : ℕ) → levels ≡ suc n → {text : List ℕ} {place inside end : ℕ} {before after pushed : List Node} → StandsAt 45 text place → Skips (drop (place + 1) text) (drop inside text)
    → IsPlace text (place + 1) inside → IsRead (IsUnary allowed n) text inside before after end → pushed ≡ after ++ node.Negation ∷ [] → IsRead (IsUnary allowed levels) text place before pushed end
unfolding IsUnary
unary_minus allowed levels n e {text} {place} {inside} {end} {before} {after} {pushed} at skips behind h more = rw e (record {
  tree = Negation h.tree;
  is_part = inr (inl (drop inside text, inr (h.tree, refl, mark_there 45 text place inside at skips, h.is_part)));
  added = more ∙ ap (λ (xs : List Node). xs ++ node.Negation ∷ []) h.added ∙ append_assoc before (postfix h.tree) (node.Negation ∷ []);
  later = (let a = behind.0 in let b = h.later.0 in omega arith, h.later.1);
})

pub unary_group : (allowed : VarSet) (levels n : ℕ) → levels ≡ suc n → {text : List ℕ} {place inside end next : ℕ} {before after : List Node} → StandsAt 40 text place → Skips (drop (place + 1) text) (drop inside text)
    → IsPlace text (place + 1) inside → IsRead (IsSum (IsUnary allowed n)) text inside before after end → IsMark 41 (drop end text) (drop next text) → IsPlace text end next
    → IsRead (IsUnary allowed levels) text place before after next
unfolding IsUnary
unary_group allowed levels n e {text} {place} {inside} {end} {next} {before} {after} at skips behind h closes last = rw e (record {
  tree = h.tree;
  is_part = inr (inr (drop inside text, drop end text, mark_there 40 text place inside at skips, h.is_part, closes));
  added = h.added;
  later = (let a = behind.0 in let b = h.later.0 in let c = last.0 in omega arith, last.1);
})

pub no_unary_plus : (allowed : VarSet) (levels n : ℕ) → levels ≡ suc n → (text : List ℕ) (place inside : ℕ) → StandsAt 43 text place → Skips (drop (place + 1) text) (drop inside text)
    → (f : ExprFault) → FailsAt (NoUnary allowed n) text inside f → FailsAt (NoUnary allowed levels) text place f
unfolding NoUnary
no_unary_plus allowed levels n e text place inside at skips f h = rw e (h.0, inr (inl (drop inside text, inl (mark_there 43 text place inside at skips), h.1)), h.2)

pub no_unary_minus : (allowed : VarSet) (levels n : ℕ) → levels ≡ suc n → (text : List ℕ) (place inside : ℕ) → StandsAt 45 text place → Skips (drop (place + 1) text) (drop inside text)
    → (f : ExprFault) → FailsAt (NoUnary allowed n) text inside f → FailsAt (NoUnary allowed levels) text place f
unfolding NoUnary
no_unary_minus allowed levels n e text place inside at skips f h = rw e (h.0, inr (inl (drop inside text, inr (mark_there 45 text place inside at skips), h.1)), h.2)

pub no_group_inside : (allowed : VarSet) (levels n : ℕ) → levels ≡ suc n → (text : List ℕ) (place inside : ℕ) → StandsAt 40 text place → Skips (drop (place + 1) text) (drop inside text)
    → (f : ExprFault) → FailsAt (NoSum (IsUnary allowed n) (NoUnary allowed n)) text inside f → FailsAt (NoUnary allowed levels) text place f
unfolding NoUnary
no_group_inside allowed levels n e text place inside at skips f h = rw e (h.0, inr (inr (drop inside text, mark_there 40 text place inside at skips, inl h.1)), h.2)

pub no_group_end : (allowed : VarSet) (levels n : ℕ) → levels ≡ suc n → (text : List ℕ) (place inside end : ℕ) {before after : List Node} → StandsAt 40 text place → Skips (drop (place + 1) text) (drop inside text)
    → IsRead (IsSum (IsUnary allowed n)) text inside before after end → (f : ExprFault) → FailsAt IsOpen text end f → FailsAt (NoUnary allowed levels) text place f
unfolding NoUnary
no_group_end allowed levels n e text place inside end at skips sum f h = rw e (h.0, inr (inr (drop inside text, mark_there 40 text place inside at skips, inr (sum.tree, drop end text, sum.is_part, h.1))), h.2)

opening_opens : (o : Opening) → opens (mark_of o) ≡ true
opening_opens Plus = refl
opening_opens Minus = refl
opening_opens Group = refl

pub too_deep : (allowed : VarSet) (levels : ℕ) → levels ≡ 0 → (text : List ℕ) (place : ℕ) (o : Opening) → place ≤ length text → StandsAt (mark_of o) text place
    → FailsAt (NoUnary allowed levels) text place (record { at = place; kind = TooDeep })
unfolding NoUnary
too_deep allowed levels e text place o within at =
    let left = length-drop place text in
    rw e (drop place text, inr (refl, refl, mark_of o, drop (place + 1) text, at.0, opening_opens o), omega arith)
