-- What is read is in lowest terms, and isn't wide.
use Rattle.std.proofs.Common.{◌≡◌, ◌≤◌, ◌+◌, ◌*◌, ℕ, zero, suc, List, [], ◌∷◌, Option, subst, sym, refl, arith, inl, inr}
use Rattle.av_expr.specs.Trees.{Tree, Binary, HasLowest, postfix}
use Rattle.av_expr.specs.Fractions.{IsLowest}
use Rattle.av_expr.specs.Kept.{width, tree_back, IsKept}
use Rattle.av_expr.specs.Parts.{AreLinks, grouped, IsChain}
use Rattle.av_expr.specs.Grammar.{IsAtom, IsNumber, IsSum, IsProduct, IsUnary, additive, multiplicative}
use Rattle.av_expr.specs.Exprs.{IsExpr}
use Rattle.av_expr.specs.declared.vars.VarSet.{VarSet}
use Rattle.av_expr.specs.declared.expr.Node.{Node}
use Rattle.av_expr.specs.declared.fraction.Fraction.{Fraction}
use Rattle.av_expr.specs.declared.fraction.Operator.{Operator}
use Rattle.av_expr.proofs.FractionLemmas.{over_one, reduced_lowest}

-- the tree is in lowest terms, and is so wide at most
pub record IsSound (w : ℕ) (t : Tree) : Type 0 where
  pub lowest : HasLowest t
  pub narrow : width t ≤ w

-- so is each tree that is such a part
abbrev AreSound : ℕ → (List ℕ → Tree → List ℕ → Type 0) → Type 0
AreSound w P = (text rest : List ℕ) (t : Tree) → P text t rest → IsSound w t

grouped_sound : (ops : ℕ → Option Operator) (w : ℕ) (P : List ℕ → Tree → List ℕ → Type 0) → AreSound w P → (text rest : List ℕ) (links : List (Operator × Tree)) (t : Tree)
    → IsSound (w + 1) t → AreLinks ops P text links rest → IsSound (w + 1) (grouped t links)
grouped_sound ops w P sound text rest [] t s h = s
grouped_sound ops w P sound text rest (link ∷ links) t s h =
    let operand = sound h.0 h.1 link.1 h.3 in
    let a = s.narrow in
    let b = operand.narrow in
    grouped_sound ops w P sound h.1 rest links (Binary link.0 t link.1) (record { lowest = (s.lowest, operand.lowest); narrow = omega arith }) h.4

chain_sound : (ops : ℕ → Option Operator) (w : ℕ) (P : List ℕ → Tree → List ℕ → Type 0) → AreSound w P → AreSound (w + 1) (IsChain ops P)
chain_sound ops w P sound text rest t h =
    let first = sound text h.2 h.0 h.3 in
    let a = first.narrow in
    subst (IsSound (w + 1)) (sym h.5) (grouped_sound ops w P sound h.2 rest h.1 h.0 (record { lowest = first.lowest; narrow = omega arith }) h.4)

sum_sound : (w : ℕ) (P : List ℕ → Tree → List ℕ → Type 0) → AreSound w P → AreSound (w + 1 + 1) (IsSum P)
sum_sound w P sound = chain_sound additive (w + 1) (IsProduct P) (chain_sound multiplicative w P sound)

number_lowest : (text rest : List ℕ) (f : Fraction) → IsNumber text f rest → IsLowest f
number_lowest text rest f (inl h) = subst IsLowest (sym h.6) (over_one _)
number_lowest text rest f (inr h) = reduced_lowest h.9

atom_sound : (allowed : VarSet) (w : ℕ) → 1 ≤ w → AreSound w (IsAtom allowed)
atom_sound allowed w some text rest t (inl h) = subst (IsSound w) (sym h.1) (record { lowest = number_lowest text rest h.0 h.2; narrow = some })
atom_sound allowed w some text rest t (inr h) = subst (IsSound w) (sym h.1) (record { lowest = tt; narrow = some })

wider : {v w : ℕ} {t : Tree} → v ≤ w → IsSound v t → IsSound w t
wider {v} {w} {t} h s = record { lowest = s.lowest; narrow = (let a = s.narrow in omega arith) }

unary_step : (allowed : VarSet) (levels : ℕ) → AreSound (2 * levels + 1) (IsUnary allowed levels) → AreSound (2 * suc levels + 1) (IsUnary allowed (suc levels))
unfolding IsUnary
unary_step allowed levels sound text rest t (inl h) = atom_sound allowed (2 * suc levels + 1) (omega arith) text rest t h
unary_step allowed levels sound text rest t (inr (inl (u, inl h))) = wider (omega arith) (sound u rest t h.1)
unary_step allowed levels sound text rest t (inr (inl (u, inr h))) = let s = wider {w = 2 * suc levels + 1} (omega arith) (sound u rest h.0 h.3) in subst (IsSound (2 * suc levels + 1)) (sym h.1) (record { lowest = s.lowest; narrow = s.narrow })
unary_step allowed levels sound text rest t (inr (inr h)) = wider (omega arith) (sum_sound (2 * levels + 1) (IsUnary allowed levels) sound h.0 h.1 t h.3)

unary_base : (allowed : VarSet) → AreSound (2 * zero + 1) (IsUnary allowed zero)
unfolding IsUnary
unary_base allowed text rest t h = atom_sound allowed (2 * zero + 1) (omega arith) text rest t h

unary_sound : (allowed : VarSet) (levels : ℕ) → AreSound (2 * levels + 1) (IsUnary allowed levels)
unary_sound allowed zero = unary_base allowed
unary_sound allowed (suc levels) = unary_step allowed levels (unary_sound allowed levels)

pub expr_sound : (allowed : VarSet) (text : List ℕ) (t : Tree) → IsExpr allowed text t → IsSound 131 t
expr_sound allowed text t h = sum_sound 129 (IsUnary allowed 64) (unary_sound allowed 64) h.start [] t h.is_sum

pub expr_lowest : (allowed : VarSet) (text : List ℕ) (t : Tree) → IsExpr allowed text t → HasLowest t
expr_lowest allowed text t h = (expr_sound allowed text t h).lowest

-- the nodes of what was read are kept
pub kept : (allowed : VarSet) (text : List ℕ) (t : Tree) (ns : List Node) → IsExpr allowed text t → ns ≡ postfix t → IsKept ns
kept allowed text t ns h e =
    let sound = expr_sound allowed text t h in
    rw e (let back = tree_back t in record { whole = rw back refl; narrow = rw back sound.narrow; lowest = rw back sound.lowest })
