-- Sums of weights, and lists that begin at a place of the words.
use Rattle.std.proofs.Common.{◌≡◌, ℕ, zero, suc, ◌+◌, ◌<◌, ◌≤◌, ◌≢◌, ◌⊎◌, List, [], ◌∷◌, ◌++◌, length, get_or, set, sym, refl, ap, ◌∙◌, subst, inl, inr, ⊎_elim, arith, get_or-set_other, get_or-set_same}
use mathlib.Core.Logic.{dite}
use mathlib.Core.Option.{some, some-injective, some-ne-none}
use native.Mathlib.Decide.{ℕ_discrete}
use lib.ListN.{get_elem?}
use Rattle.atomic_table.proofs.Lists.{at_set}
use Rattle.plane_pool.specs.declared.view.View.{View}
use Rattle.plane_pool.specs.Slot.{weight, weights, BeginsAt}
use Rattle.plane_pool.specs.Told.{with_word}

pub weights-set : (l : List View) (i : ℕ) (v w : View) → get_elem? l i ≡ some v → weights (set l i w) + weight v ≡ weights l + weight w
weights-set [] i v w e = absurd (some-ne-none v (sym e))
weights-set (x ∷ xs) zero v w e = let is : weight x ≡ weight v = ap weight (some-injective x v e) in omega arith
weights-set (x ∷ xs) (suc i) v w e = let r = weights-set xs i v w e in omega arith

pub weights-snoc : (l : List View) (w : View) → weights (l ++ w ∷ []) ≡ weights l + weight w
weights-snoc [] w = omega arith
weights-snoc (x ∷ xs) w = let r = weights-snoc xs w in omega arith

pub weight-le : (l : List View) (i : ℕ) (v : View) → get_elem? l i ≡ some v → weight v ≤ weights l
weight-le [] i v e = absurd (some-ne-none v (sym e))
weight-le (x ∷ xs) zero v e = let is : weight x ≡ weight v = ap weight (some-injective x v e) in omega arith
weight-le (x ∷ xs) (suc i) v e = let r = weight-le xs i v e in omega arith

pub two_weights : (l : List View) (i j : ℕ) (v u : View) → get_elem? l i ≡ some v → get_elem? l j ≡ some u → i ≢ j → weight v + weight u ≤ weights l
two_weights [] i j v u a b n = absurd (some-ne-none v (sym a))
two_weights (x ∷ xs) zero zero v u a b n = absurd (n refl)
two_weights (x ∷ xs) zero (suc j) v u a b n = let is : weight x ≡ weight v = ap weight (some-injective x v a) in let r = weight-le xs j u b in omega arith
two_weights (x ∷ xs) (suc i) zero v u a b n = let is : weight x ≡ weight u = ap weight (some-injective x u b) in let r = weight-le xs i v a in omega arith
two_weights (x ∷ xs) (suc i) (suc j) v u a b n = let r = two_weights xs i j v u a b (λ e. n (ap suc e)) in omega arith

-- what holds of the seat's new view and of the other views holds of all
pub each_set : (P : ℕ → View → Type 0) (vs : List View) (me : ℕ) (w : View) → P me w → ((j : ℕ) (d : View) → j ≢ me → get_elem? vs j ≡ some d → P j d)
    → (j : ℕ) (d : View) → get_elem? (set vs me w) j ≡ some d → P j d
each_set P vs me w here others j d e = ⊎_elim (λ t. subst (λ (z : ℕ × View). P z.0 z.1) (λ i. (sym t.0 i, t.1 i)) here) (λ t. others j d t.0 t.1) (at_set vs me j w d e)

last_or : (l : List View) (a b : View) (j : ℕ) → get_elem? (l ++ a ∷ []) j ≡ some b → (get_elem? l j ≡ some b) ⊎ ((j ≡ length l) × (a ≡ b))
last_or [] a b zero e = inr (refl, some-injective a b e)
last_or [] a b (suc j) e = absurd (some-ne-none b (sym e))
last_or (x ∷ xs) a b zero e = inl e
last_or (x ∷ xs) a b (suc j) e = ⊎_elim (λ t. inl t) (λ t. inr (ap suc t.0, t.1)) (last_or xs a b j e)

pub each_snoc : (P : ℕ → View → Type 0) (vs : List View) (w : View) → P (length vs) w → ((j : ℕ) (d : View) → get_elem? vs j ≡ some d → P j d)
    → (j : ℕ) (d : View) → get_elem? (vs ++ w ∷ []) j ≡ some d → P j d
each_snoc P vs w here others j d e = ⊎_elim (λ t. others j d t) (λ t. subst (λ (z : ℕ × View). P z.0 z.1) (λ i. (sym t.0 i, t.1 i)) here) (last_or vs w d j e)

-- a seat's number is below the number of views
pub at_below : (l : List View) (i : ℕ) (v : View) → get_elem? l i ≡ some v → i < length l
at_below [] i v e = absurd (some-ne-none v (sym e))
at_below (x ∷ xs) zero v e = omega arith
at_below (x ∷ xs) (suc i) v e = let r = at_below xs i v e in omega arith

pub with_word-le : (ys : List ℕ) (k x c : ℕ) → k ≤ length ys → k < c → length ys ≤ c → length (with_word ys k x) ≤ c
with_word-le [] zero x c a b d = omega arith
with_word-le [] (suc k) x c a b d = omega arith
with_word-le (y ∷ ys) zero x c a b d = d
with_word-le (y ∷ ys) (suc k) x zero a b d = absurd (omega arith)
with_word-le (y ∷ ys) (suc k) x (suc c) a b d = let r = with_word-le ys k x c (omega arith) (omega arith) (omega arith) in omega arith

with_word_here : (ys : List ℕ) (k x : ℕ) → k ≤ length ys → get_or (with_word ys k x) k 0 ≡ x
with_word_here [] zero x le = refl
with_word_here [] (suc k) x le = absurd (omega arith)
with_word_here (y ∷ ys) zero x le = refl
with_word_here (y ∷ ys) (suc k) x le = with_word_here ys k x (omega arith)

with_word_other : (ys : List ℕ) (k x j : ℕ) → j ≢ k → k ≤ length ys → j < length (with_word ys k x) → (j < length ys) × (get_or (with_word ys k x) j 0 ≡ get_or ys j 0)
with_word_other [] zero x zero n le l = absurd (n refl)
with_word_other [] zero x (suc j) n le l = absurd (omega arith)
with_word_other [] (suc k) x j n le l = absurd (omega arith)
with_word_other (y ∷ ys) zero x zero n le l = absurd (n refl)
with_word_other (y ∷ ys) zero x (suc j) n le l = (l, refl)
with_word_other (y ∷ ys) (suc k) x zero n le l = (omega arith, refl)
with_word_other (y ∷ ys) (suc k) x (suc j) n le l = let r = with_word_other ys k x j (λ e. n (ap suc e)) (omega arith) (omega arith) in (omega arith, r.1)

pub stands_put : (words : List ℕ) (from : ℕ) (ys : List ℕ) (p x k : ℕ) → from + k ≡ p → k ≤ length ys → p + 1 < length words → BeginsAt words from ys → BeginsAt (set words (p + 1) x) from (with_word ys k x)
stands_put words from ys p x k e le inside st j l = dite (ℕ_discrete j k)
    (λ same. let i : (from + j) + 1 ≡ p + 1 = omega arith in
    ap (λ (z : ℕ). get_or (set words (p + 1) x) z 0) i ∙ (get_or-set_same words (p + 1) x 0 inside ∙ sym (ap (λ (z : ℕ). get_or (with_word ys k x) z 0) same ∙ with_word_here ys k x le)))
    (λ other. let t = with_word_other ys k x j other le l in let ne : (from + j) + 1 ≢ p + 1 = λ (h : (from + j) + 1 ≡ p + 1). other (omega arith) in
    get_or-set_other words (p + 1) ((from + j) + 1) x 0 ne ∙ (st j t.0 ∙ sym t.1))

-- a write outside leaves it
pub stands_off : (words : List ℕ) (from : ℕ) (ys : List ℕ) (i x : ℕ) → ((k : ℕ) → k < length ys → (from + k) + 1 ≢ i) → BeginsAt words from ys → BeginsAt (set words i x) from ys
stands_off words from ys i x off st k l = get_or-set_other words i ((from + k) + 1) x 0 (off k l) ∙ st k l
