-- Operands and whole texts have one reading at most, or one fault.
use Rattle.std.proofs.Common.{◌≡◌, ◌==◌, ◌||◌, ◌⊎◌, ℕ, zero, suc, Bool, false, true, List, [], ◌∷◌, length, refl, sym, ◌∙◌, ap, subst, inl, inr, arith, eqb-true}
use Rattle.av_text.specs.Classes.{is_name, Stops}
use Rattle.av_expr.specs.Trees.{Tree, Negation}
use Rattle.av_text.specs.Parts.{Part, NoPart, Either, Lacks}
use Rattle.av_expr.specs.Parts.{IsMark}
use Rattle.av_expr.specs.Grammar.{IsAtom, NoAtom, opens, begins, additive, multiplicative, IsSum, NoSum, IsSigned, NoSigned, IsGroup, NoGroup, IsUnary, NoUnary, IsTooDeep}
use Rattle.av_expr.specs.Exprs.{IsExpr, IsExprFault, IsBehind}
use Rattle.av_expr.specs.Reading.{BeginsNumber, BeginsName}
use Rattle.av_expr.specs.declared.vars.VarSet.{VarSet}
use Rattle.av_expr.specs.declared.fault.ExprKind.{ExprKind}
use Rattle.av_text.proofs.Places.{skip_same}
use Rattle.av_text.proofs.PartLaws.{Lawful, one_or_other}
use Rattle.av_expr.proofs.PartLaws.{mark_same, mark_lacks, chain_law}
use Rattle.av_expr.proofs.AtomLaws.{atom_law, number_begins, no_number_begins, name_begins, digit_names}
use Rattle.av_base.proofs.Lists.{cons_parts}

-- ---- sums

pub sum_law : {P : Part Tree} {F : NoPart ExprKind} → Lawful P F → Lawful (IsSum P) (NoSum P F)
sum_law {P} {F} law = chain_law additive (chain_law multiplicative law)

-- ---- signs

marks_apart : (m n : ℕ) {text r s : List ℕ} → (m ≡ n → ⊥) → IsMark m text r → IsMark n text s → ⊥
marks_apart m n apart a b = apart (mark_same a b).0

signed_same : {P : Part Tree} {F : NoPart ExprKind} → Lawful P F → {text r s : List ℕ} {x y : Tree} → IsSigned P text x r → IsSigned P text y s → (x ≡ y) × (r ≡ s)
signed_same {P} {F} law {text} {r} {s} {x} {y} (u, inl a) (v, inl b) = law.same (subst (λ (t : List ℕ). P t x r) (mark_same a.0 b.0).1 a.1) b.1
signed_same {P} {F} law {text} {r} {s} {x} {y} (u, inl a) (v, inr b) = absurd (marks_apart 43 45 (λ e. omega arith) a.0 b.2)
signed_same {P} {F} law {text} {r} {s} {x} {y} (u, inr a) (v, inl b) = absurd (marks_apart 45 43 (λ e. omega arith) a.2 b.0)
signed_same {P} {F} law {text} {r} {s} {x} {y} (u, inr a) (v, inr b) =
    let operand = law.same (subst (λ (t : List ℕ). P t a.0 r) (mark_same a.2 b.2).1 a.3) b.3 in
    (a.1 ∙ ap Negation operand.0 ∙ sym b.1, operand.1)

signed_fault : {P : Part Tree} {F : NoPart ExprKind} → Lawful P F → {text r s : List ℕ} {k l : ExprKind} → NoSigned F text k r → NoSigned F text l s → (k ≡ l) × (r ≡ s)
signed_fault {P} {F} law {text} {r} {s} {k} {l} (u, inl m, a) (v, inl n, b) = law.fault (subst (λ (t : List ℕ). F t k r) (mark_same m n).1 a) b
signed_fault {P} {F} law {text} {r} {s} {k} {l} (u, inl m, a) (v, inr n, b) = absurd (marks_apart 43 45 (λ e. omega arith) m n)
signed_fault {P} {F} law {text} {r} {s} {k} {l} (u, inr m, a) (v, inl n, b) = absurd (marks_apart 45 43 (λ e. omega arith) m n)
signed_fault {P} {F} law {text} {r} {s} {k} {l} (u, inr m, a) (v, inr n, b) = law.fault (subst (λ (t : List ℕ). F t k r) (mark_same m n).1 a) b

signed_apart : {P : Part Tree} {F : NoPart ExprKind} → Lawful P F → {text r s : List ℕ} {x : Tree} {k : ExprKind} → IsSigned P text x r → NoSigned F text k s → ⊥
signed_apart {P} {F} law {text} {r} {s} {x} {k} (u, inl a) (v, inl n, b) = law.apart a.1 (subst (λ (t : List ℕ). F t k s) (mark_same n a.0).1 b)
signed_apart {P} {F} law {text} {r} {s} {x} {k} (u, inl a) (v, inr n, b) = marks_apart 43 45 (λ e. omega arith) a.0 n
signed_apart {P} {F} law {text} {r} {s} {x} {k} (u, inr a) (v, inl n, b) = marks_apart 45 43 (λ e. omega arith) a.2 n
signed_apart {P} {F} law {text} {r} {s} {x} {k} (u, inr a) (v, inr n, b) = law.apart a.3 (subst (λ (t : List ℕ). F t k s) (mark_same n a.2).1 b)

signed_law : {P : Part Tree} {F : NoPart ExprKind} → Lawful P F → Lawful (IsSigned P) (NoSigned F)
signed_law {P} {F} law = record { same = λ a b. signed_same law a b; fault = λ a b. signed_fault law a b; apart = λ a b. signed_apart law a b }

-- ---- parentheses

group_fault : {P : Part Tree} {F : NoPart ExprKind} → Lawful (IsSum P) (NoSum P F) → {text r s : List ℕ} {k l : ExprKind} → NoGroup P F text k r → NoGroup P F text l s → (k ≡ l) × (r ≡ s)
group_fault {P} {F} law {text} {r} {s} {k} {l} (u, m, inl a) (v, n, inl b) = law.fault (subst (λ (t : List ℕ). NoSum P F t k r) (mark_same m n).1 a) b
group_fault {P} {F} law {text} {r} {s} {k} {l} (u, m, inl a) (v, n, inr b) = absurd (law.apart b.2 (subst (λ (t : List ℕ). NoSum P F t k r) (mark_same m n).1 a))
group_fault {P} {F} law {text} {r} {s} {k} {l} (u, m, inr a) (v, n, inl b) = absurd (law.apart a.2 (subst (λ (t : List ℕ). NoSum P F t l s) (mark_same n m).1 b))
group_fault {P} {F} law {text} {r} {s} {k} {l} (u, m, inr a) (v, n, inr b) =
    let inside = law.same (subst (λ (t : List ℕ). IsSum P t a.0 a.1) (mark_same m n).1 a.2) b.2 in
    (a.3.0 ∙ sym b.3.0, a.3.1 ∙ inside.1 ∙ sym b.3.1)

group_apart : {P : Part Tree} {F : NoPart ExprKind} → Lawful (IsSum P) (NoSum P F) → {text r s : List ℕ} {x : Tree} {k : ExprKind} → IsGroup P text x r → NoGroup P F text k s → ⊥
group_apart {P} {F} law {text} {r} {s} {x} {k} a (v, n, inl b) = law.apart a.3 (subst (λ (t : List ℕ). NoSum P F t k s) (mark_same n a.2).1 b)
group_apart {P} {F} law {text} {r} {s} {x} {k} a (v, n, inr b) =
    let inside = law.same (subst (λ (t : List ℕ). IsSum P t b.0 b.1) (mark_same n a.2).1 b.2) a.3 in
    mark_lacks a.4 (subst (Lacks 41) inside.1 b.3.2)

group_same : {P : Part Tree} {F : NoPart ExprKind} → Lawful (IsSum P) (NoSum P F) → {text r s : List ℕ} {x y : Tree} → IsGroup P text x r → IsGroup P text y s → (x ≡ y) × (r ≡ s)
group_same {P} {F} law {text} {r} {s} {x} {y} a b =
    let inside = law.same (subst (λ (t : List ℕ). IsSum P t x a.1) (mark_same a.2 b.2).1 a.3) b.3 in
    (inside.0, (mark_same (subst (λ (t : List ℕ). IsMark 41 t r) inside.1 a.4) b.4).1)

group_law : {P : Part Tree} {F : NoPart ExprKind} → Lawful P F → Lawful (IsGroup P) (NoGroup P F)
group_law {P} {F} law = record { same = λ a b. group_same (sum_law law) a b; fault = λ a b. group_fault (sum_law law) a b; apart = λ a b. group_apart (sum_law law) a b }

-- ---- how operands begin

abbrev BeginsSign : List ℕ → Type 0
BeginsSign text = (r : List ℕ) × (IsMark 43 text r ⊎ IsMark 45 text r)

abbrev BeginsGroup : List ℕ → Type 0
BeginsGroup text = (r : List ℕ) × IsMark 40 text r

abbrev BeginsLevel : List ℕ → Type 0
BeginsLevel text = (c : ℕ) × (behind : List ℕ) × (text ≡ c ∷ behind) × (opens c ≡ true)

sign_begins : (P : Part Tree) (text r : List ℕ) (x : Tree) → IsSigned P text x r → BeginsSign text
sign_begins P text r x (u, inl a) = (u, inl a.0)
sign_begins P text r x (u, inr a) = (u, inr a.2)

sign_or_group : (text : List ℕ) → BeginsSign text → BeginsGroup text → ⊥
sign_or_group text (r, inl a) b = marks_apart 43 40 (λ e. omega arith) a b.1
sign_or_group text (r, inr a) b = marks_apart 45 40 (λ e. omega arith) a b.1

level_law : {P : Part Tree} {F : NoPart ExprKind} → Lawful P F → Lawful (λ text x r. IsSigned P text x r ⊎ IsGroup P text x r) (λ text k r. NoSigned F text k r ⊎ NoGroup P F text k r)
level_law {P} {F} law = one_or_other BeginsSign BeginsGroup (signed_law law) (group_law law)
    (sign_begins P)
    (λ text r k h. (h.0, h.1))
    (λ text r x h. (h.0, h.2))
    (λ text r k h. (h.0, h.1))
    sign_or_group

-- a mark that opens a level is no digit, no part of a name and no point
pub opens_which : (c : ℕ) → opens c ≡ true → (c ≡ 45) ⊎ ((c ≡ 43) ⊎ (c ≡ 40))
opens_which c e = by (c == 45) (c == 43) (c == 40) refl refl refl e where
  by : (a b d : Bool) → (c == 45) ≡ a → (c == 43) ≡ b → (c == 40) ≡ d → (a || (b || d)) ≡ true → (c ≡ 45) ⊎ ((c ≡ 43) ⊎ (c ≡ 40))
  by true b d p q r e = inl (eqb-true c 45 p)
  by false true d p q r e = inr (inl (eqb-true c 43 q))
  by false false true p q r e = inr (inr (eqb-true c 40 r))
  by false false false p q r e = absurd (let not_so = e in cc)

opens_apart : (c : ℕ) → opens c ≡ true → is_name c ≡ true → ⊥
opens_apart c e name = elim (opens_which c e) [
  | inl is ↦ (let h : is_name 45 ≡ true = subst (λ (x : ℕ). is_name x ≡ true) is name in let not_so : is_name 45 ≡ false = refl in cc)
  | inr (inl is) ↦ (let h : is_name 43 ≡ true = subst (λ (x : ℕ). is_name x ≡ true) is name in let not_so : is_name 43 ≡ false = refl in cc)
  | inr (inr is) ↦ (let h : is_name 40 ≡ true = subst (λ (x : ℕ). is_name x ≡ true) is name in let not_so : is_name 40 ≡ false = refl in cc)
]

opens_point : (c : ℕ) → opens c ≡ true → c ≡ 46 → ⊥
opens_point c e point = let h : opens 46 ≡ true = subst (λ (x : ℕ). opens x ≡ true) point e in let not_so : opens 46 ≡ false = refl in cc

abbrev BeginsNoLevel : List ℕ → Type 0
BeginsNoLevel text = ¬ BeginsLevel text

number_no_level : {text : List ℕ} → BeginsNumber text → ¬ BeginsLevel text
number_no_level {text} h l = let e = (cons_parts (sym h.2 ∙ l.2)).0 in elim h.3 [
  | inl digit ↦ opens_apart l.0 l.3 (subst (λ (c : ℕ). is_name c ≡ true) e (digit_names h.0 digit))
  | inr point ↦ opens_point l.0 l.3 (sym e ∙ point)
]

name_no_level : {text : List ℕ} → BeginsName text → ¬ BeginsLevel text
name_no_level {text} h l = let e = (cons_parts (sym h.2 ∙ l.2)).0 in opens_apart l.0 l.3 (subst (λ (c : ℕ). is_name c ≡ true) e h.3)

begins_level : (c : ℕ) → opens c ≡ true → begins c ≡ true
begins_level c e = by (is_name c) (c == 46) (opens c) e where
  by : (a b d : Bool) → d ≡ true → (a || (b || d)) ≡ true
  by true b d e = refl
  by false true d e = refl
  by false false d e = e

atom_no_level : (allowed : VarSet) (text r : List ℕ) (x : Tree) → IsAtom allowed text x r → ¬ BeginsLevel text
atom_no_level allowed text r x (inl h) = number_no_level (number_begins h.2)
atom_no_level allowed text r x (inr h) = name_no_level (name_begins h.2.2)

no_atom_no_level : (allowed : VarSet) (text r : List ℕ) (k : ExprKind) → NoAtom allowed text k r → ¬ BeginsLevel text
no_atom_no_level allowed text r k (inl h) l = number_no_level (no_number_begins h) l
no_atom_no_level allowed text r k (inr (inl h)) l = name_no_level (name_begins h.4) l
no_atom_no_level allowed text r k (inr (inr h)) l = let is = begins_level l.0 l.3 in let not_so : begins l.0 ≡ false = subst (Stops begins) l.2 h.2 in cc

mark_level : (m : ℕ) {text r : List ℕ} → opens m ≡ true → IsMark m text r → BeginsLevel text
mark_level m is h = (m, h.0, h.1, is)

levels_begin : (P : Part Tree) (text r : List ℕ) (x : Tree) → IsSigned P text x r ⊎ IsGroup P text x r → BeginsLevel text
levels_begin P text r x (inl (u, inl a)) = mark_level 43 refl a.0
levels_begin P text r x (inl (u, inr a)) = mark_level 45 refl a.2
levels_begin P text r x (inr a) = mark_level 40 refl a.2

no_levels_begin : (P : Part Tree) (F : NoPart ExprKind) (text r : List ℕ) (k : ExprKind) → NoSigned F text k r ⊎ NoGroup P F text k r → BeginsLevel text
no_levels_begin P F text r k (inl (u, inl a, b)) = mark_level 43 refl a
no_levels_begin P F text r k (inl (u, inr a, b)) = mark_level 45 refl a
no_levels_begin P F text r k (inr a) = mark_level 40 refl a.1

-- ---- operands

unary_zero : (allowed : VarSet) → Lawful (IsUnary allowed zero) (NoUnary allowed zero)
unfolding IsUnary NoUnary
unary_zero allowed = record { same = law.same; fault = fault; apart = apart } where
  law : Lawful (IsAtom allowed) (NoAtom allowed)
  law = atom_law allowed

  fault : {text r s : List ℕ} {k l : ExprKind} → NoAtom allowed text k r ⊎ IsTooDeep text k r → NoAtom allowed text l s ⊎ IsTooDeep text l s → (k ≡ l) × (r ≡ s)
  fault (inl a) (inl b) = law.fault a b
  fault {text} {r} {s} {k} {l} (inl a) (inr b) = absurd (no_atom_no_level allowed text r k a (b.2, b.3, b.4, b.5))
  fault {text} {r} {s} {k} {l} (inr a) (inl b) = absurd (no_atom_no_level allowed text s l b (a.2, a.3, a.4, a.5))
  fault (inr a) (inr b) = (a.0 ∙ sym b.0, a.1 ∙ sym b.1)

  apart : {text r s : List ℕ} {x : Tree} {k : ExprKind} → IsAtom allowed text x r → NoAtom allowed text k s ⊎ IsTooDeep text k s → ⊥
  apart a (inl b) = law.apart a b
  apart {text} {r} {s} {x} {k} a (inr b) = atom_no_level allowed text r x a (b.2, b.3, b.4, b.5)

unary_suc : (allowed : VarSet) (levels : ℕ) → Lawful (IsUnary allowed levels) (NoUnary allowed levels) → Lawful (IsUnary allowed (suc levels)) (NoUnary allowed (suc levels))
unfolding IsUnary NoUnary
unary_suc allowed levels law = one_or_other BeginsNoLevel BeginsLevel (atom_law allowed) (level_law law)
    (atom_no_level allowed)
    (no_atom_no_level allowed)
    (levels_begin (IsUnary allowed levels))
    (no_levels_begin (IsUnary allowed levels) (NoUnary allowed levels))
    (λ text a b. a b)

pub unary_law : (allowed : VarSet) (levels : ℕ) → Lawful (IsUnary allowed levels) (NoUnary allowed levels)
unary_law allowed zero = unary_zero allowed
unary_law allowed (suc levels) = unary_suc allowed levels (unary_law allowed levels)

-- ---- whole texts

whole_law : (allowed : VarSet) → Lawful (IsSum (IsUnary allowed 64)) (NoSum (IsUnary allowed 64) (NoUnary allowed 64))
whole_law allowed = sum_law (unary_law allowed 64)

pub one_tree : (allowed : VarSet) (text : List ℕ) (a b : Tree) → IsExpr allowed text a → IsExpr allowed text b → a ≡ b
one_tree allowed text a b p q = ((whole_law allowed).same (rw (skip_same p.skips q.skips) at p.is_sum) q.is_sum).0

-- there is no sum, or something is after it
abbrev WholeFails : VarSet → List ℕ → ExprKind → List ℕ → Type 0
WholeFails allowed = Either (IsSum (IsUnary allowed 64)) (NoSum (IsUnary allowed 64) (NoUnary allowed 64)) IsBehind

start_fault : (allowed : VarSet) (start r s : List ℕ) (k l : ExprKind) → WholeFails allowed start k r → WholeFails allowed start l s → (k ≡ l) × (r ≡ s)
start_fault allowed start r s k l (inl a) (inl b) = (whole_law allowed).fault a b
start_fault allowed start r s k l (inl a) (inr b) = absurd ((whole_law allowed).apart b.2 a)
start_fault allowed start r s k l (inr a) (inl b) = absurd ((whole_law allowed).apart a.2 b)
start_fault allowed start r s k l (inr a) (inr b) = (a.3.0 ∙ sym b.3.0, a.3.1 ∙ ((whole_law allowed).same a.2 b.2).1 ∙ sym b.3.1)

start_apart : (allowed : VarSet) (start s : List ℕ) (t : Tree) (k : ExprKind) → IsSum (IsUnary allowed 64) start t [] → WholeFails allowed start k s → ⊥
start_apart allowed start s t k a (inl b) = (whole_law allowed).apart a b
start_apart allowed start s t k a (inr b) = let e = ap length ((whole_law allowed).same a b.2).1 in let some = b.3.2 in omega arith

pub one_fault : (allowed : VarSet) (text r s : List ℕ) (k l : ExprKind) → IsExprFault allowed text k r → IsExprFault allowed text l s → (k ≡ l) × (r ≡ s)
one_fault allowed text r s k l p q = start_fault allowed q.start r s k l (subst (λ (t : List ℕ). WholeFails allowed t k r) (skip_same p.skips q.skips) p.fails) q.fails

pub tree_or_fault : (allowed : VarSet) (text s : List ℕ) (a : Tree) (k : ExprKind) → IsExpr allowed text a → IsExprFault allowed text k s → ⊥
tree_or_fault allowed text s a k p q = start_apart allowed q.start s a k (subst (λ (t : List ℕ). IsSum (IsUnary allowed 64) t a []) (skip_same p.skips q.skips) p.is_sum) q.fails
