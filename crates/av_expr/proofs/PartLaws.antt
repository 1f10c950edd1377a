-- Rows of operands: a text begins with one at most, or has one fault.
use Rattle.std.proofs.Common.{◌≡◌, ◌==◌, ℕ, false, List, [], ◌∷◌, Option, Some, None, refl, sym, ◌∙◌, ap, subst, inl, inr, eq-eqb}
use Rattle.av_expr.specs.Trees.{Tree}
use Rattle.av_text.specs.Parts.{Lacks}
use Rattle.av_text.proofs.PartLaws.{Lawful}
use Rattle.av_expr.specs.Parts.{IsMark, IsOperator, NoOperator, AreLinks, LinksFail, grouped, IsChain, NoChain}
use Rattle.av_expr.specs.declared.fraction.Operator.{Operator}
use Rattle.av_expr.specs.declared.fault.ExprKind.{ExprKind}
use Rattle.av_text.proofs.Places.{skip_same}
use Rattle.av_base.proofs.Lists.{cons_parts}

-- ---- marks

pub mark_same : {m n : ℕ} {text r s : List ℕ} → IsMark m text r → IsMark n text s → (m ≡ n) × (r ≡ s)
mark_same {m} {n} {text} {r} {s} a b =
    let parts = cons_parts (sym a.1 ∙ b.1) in
    (parts.0, skip_same (rw parts.1 at a.2) b.2)

pub mark_lacks : {m : ℕ} {text r : List ℕ} → IsMark m text r → Lacks m text → ⊥
mark_lacks {m} {text} {r} a h = let is = eq-eqb m m refl in let not_so : (m == m) ≡ false = subst (Lacks m) a.1 h in cc

pub some_same : {X : Type 0} {x y : X} → Some x ≡ Some y → x ≡ y
some_same {X} {x} {y} e = cc

operator_same : (ops : ℕ → Option Operator) {text r s : List ℕ} {p q : Operator} → IsOperator ops text p r → IsOperator ops text q s → (p ≡ q) × (r ≡ s)
operator_same ops {text} {r} {s} {p} {q} a b =
    let marks = mark_same a.2 b.2 in
    (some_same (sym a.1 ∙ ap ops marks.0 ∙ b.1), marks.1)

operator_none : (ops : ℕ → Option Operator) {text r : List ℕ} {p : Operator} → IsOperator ops text p r → NoOperator ops text → ⊥
operator_none ops {text} {r} {p} a h = let is = a.1 in let not_so : ops a.0 ≡ None = subst (NoOperator ops) a.2.1 h in cc

-- ---- rows of operands

module _ (ops : ℕ → Option Operator) (P : List ℕ → Tree → List ℕ → Type 0) (F : List ℕ → ExprKind → List ℕ → Type 0) (law : Lawful P F) where
  links_same : (text : List ℕ) (xs ys : List (Operator × Tree)) (r s : List ℕ) → AreLinks ops P text xs r → AreLinks ops P text ys s → (xs ≡ ys) × (r ≡ s)
  links_same text [] [] r s a b = (refl, a.0 ∙ sym b.0)
  links_same text [] (y ∷ ys) r s a b = absurd (operator_none ops b.2 a.1)
  links_same text (x ∷ xs) [] r s a b = absurd (operator_none ops a.2 b.1)
  links_same text (x ∷ xs) (y ∷ ys) r s a b =
      let op = operator_same ops a.2 b.2 in
      let operand = law.same (rw op.1 at a.3) b.3 in
      let others = links_same b.1 xs ys r s (rw operand.1 at a.4) b.4 in
      (let e = op.0 in let f = operand.0 in let g = others.0 in same_link x y xs ys e f g, others.1)
    where
      same_link : (x y : Operator × Tree) (xs ys : List (Operator × Tree)) → x.0 ≡ y.0 → x.1 ≡ y.1 → xs ≡ ys → x ∷ xs ≡ y ∷ ys
      same_link x y xs ys e f g =
          let make : Operator → Tree → List (Operator × Tree) → List (Operator × Tree) = λ o t l. (o, t) ∷ l in
          ap (λ (o : Operator). make o x.1 xs) e ∙ ap (λ (t : Tree). make y.0 t xs) f ∙ ap (make y.0 y.1) g

  links_fault : (text : List ℕ) (xs ys : List (Operator × Tree)) (k l : ExprKind) (r s : List ℕ) → LinksFail ops P F text xs k r → LinksFail ops P F text ys l s → (k ≡ l) × (r ≡ s)
  links_fault text [] [] k l r s a b = law.fault (rw (operator_same ops a.2 b.2).1 at a.3) b.3
  links_fault text [] (y ∷ ys) k l r s a b = absurd (law.apart b.3 (rw (operator_same ops a.2 b.2).1 at a.3))
  links_fault text (x ∷ xs) [] k l r s a b = absurd (law.apart a.3 (rw (operator_same ops b.2 a.2).1 at b.3))
  links_fault text (x ∷ xs) (y ∷ ys) k l r s a b =
      let operand = law.same (rw (operator_same ops a.2 b.2).1 at a.3) b.3 in
      links_fault b.1 xs ys k l r s (rw operand.1 at a.4) b.4

  links_apart : (text : List ℕ) (xs ys : List (Operator × Tree)) (k : ExprKind) (r s : List ℕ) → AreLinks ops P text xs r → LinksFail ops P F text ys k s → ⊥
  links_apart text [] [] k r s a b = operator_none ops b.2 a.1
  links_apart text [] (y ∷ ys) k r s a b = operator_none ops b.2 a.1
  links_apart text (x ∷ xs) [] k r s a b = law.apart a.3 (rw (operator_same ops b.2 a.2).1 at b.3)
  links_apart text (x ∷ xs) (y ∷ ys) k r s a b =
      let operand = law.same (rw (operator_same ops a.2 b.2).1 at a.3) b.3 in
      links_apart b.1 xs ys k r s (rw operand.1 at a.4) b.4

  chain_same : {text r s : List ℕ} {x y : Tree} → IsChain ops P text x r → IsChain ops P text y s → (x ≡ y) × (r ≡ s)
  chain_same {text} {r} {s} {x} {y} a b =
      let first = law.same a.3 b.3 in
      let links = links_same b.2 a.1 b.1 r s (rw first.1 at a.4) b.4 in
      (a.5 ∙ ap (λ (t : Tree). grouped t a.1) first.0 ∙ ap (grouped b.0) links.0 ∙ sym b.5, links.1)

  chain_fault : {text r s : List ℕ} {k l : ExprKind} → NoChain ops P F text k r → NoChain ops P F text l s → (k ≡ l) × (r ≡ s)
  chain_fault (inl a) (inl b) = law.fault a b
  chain_fault (inl a) (inr b) = absurd (law.apart b.2 a)
  chain_fault (inr a) (inl b) = absurd (law.apart a.2 b)
  chain_fault {r = r} {s = s} {k = k} {l = l} (inr a) (inr b) =
      let first = law.same a.2 b.2 in
      links_fault b.1 a.3.0 b.3.0 k l r s (rw first.1 at a.3.1) b.3.1

  chain_apart : {text r s : List ℕ} {x : Tree} {k : ExprKind} → IsChain ops P text x r → NoChain ops P F text k s → ⊥
  chain_apart a (inl b) = law.apart a.3 b
  chain_apart {r = r} {s = s} {k = k} a (inr b) =
      let first = law.same a.3 b.2 in
      links_apart b.1 a.1 b.3.0 k r s (rw first.1 at a.4) b.3.1

pub chain_law : (ops : ℕ → Option Operator) {P : List ℕ → Tree → List ℕ → Type 0} {F : List ℕ → ExprKind → List ℕ → Type 0} → Lawful P F → Lawful (IsChain ops P) (NoChain ops P F)
chain_law ops {P} {F} law = record { same = λ a b. chain_same ops P F law a b; fault = λ a b. chain_fault ops P F law a b; apart = λ a b. chain_apart ops P F law a b }
