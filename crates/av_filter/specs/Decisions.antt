-- What is decided: facts that hold or don't, the first of several places, and words of tables.
use Rattle.std.specs.Prelude.{◌≡◌, ◌<◌, ◌⊎◌, ℕ, zero, suc, List, [], ◌∷◌, length, get_or, Option, Some, None, refl}
use Rattle.std.proofs.Common.{inl, inr, ◌∙◌, sym, ap, subst, arith}
use Rattle.std.proofs.lemmas.Bool.{cases_lt}
use Rattle.av_filter.specs.Words.{word_in}

-- it holds, or it doesn't
abbrev pub IsDecided : Type 0 → Type 0
IsDecided P = P ⊎ ¬ P

-- ---- places

-- each place below n has one thing, or there is a first place that has another
abbrev pub AllOrFirst : (ℕ → Type 0) → (ℕ → Type 0) → ℕ → Type 0
AllOrFirst A B n = ((k : ℕ) → k < n → A k) ⊎ ((k : ℕ) × (k < n) × B k × ((j : ℕ) → j < k → A j))

pub search_values : (A B : ℕ → Type 0) (n : ℕ) → ((k : ℕ) → k < n → A k ⊎ B k) → AllOrFirst A B n
search_values A B zero each = inl (λ k less. absurd (omega arith))
search_values A B (suc n) each = elim (search_values A B n (λ k less. each k (omega arith))) [
  | inr first ↦ inr (first.0, omega (arith, first.1), first.2, first.3)
  | inl all ↦ elim (each n (omega arith)) [
    | inr other ↦ inr (n, omega arith, other, all)
    | inl last ↦ inl (λ k below. elim (cases_lt k n) [
      | inl less ↦ all k less
      | inr past ↦ (let same : n ≡ k = omega arith in subst A same last)
    ])
  ]
]

-- it holds at each place below n, or there is a first place at which it doesn't
pub search_first : (P : ℕ → Type 0) (n : ℕ) → ((k : ℕ) → k < n → P k ⊎ ¬ P k) → ((k : ℕ) → k < n → P k) ⊎ ((k : ℕ) × (k < n) × (¬ P k) × ((j : ℕ) → j < k → P j))
search_first P n each = search_values P (λ k. ¬ P k) n each

-- a list with such a thing at each place
pub list_of : {X : Type 0} (d : X) (n : ℕ) (A : ℕ → X → Type 0) → ((k : ℕ) → k < n → (x : X) × A k x) → (xs : List X) × (length xs ≡ n) × ((k : ℕ) → k < n → A k (get_or xs k d))
list_of d zero A each = ([], refl, λ k less. absurd (omega arith))
list_of {X} d (suc n) A each =
    let first = each 0 (omega arith) in
    let rest = list_of d n (λ k. A (suc k)) (λ k less. each (suc k) (omega arith)) in
    (first.0 ∷ rest.0, ap suc rest.1, at first.0 rest.0 first.1 rest.2)
  where
    at : (x : X) (xs : List X) → A 0 x → ((k : ℕ) → k < n → A (suc k) (get_or xs k d)) → (k : ℕ) → k < suc n → A k (get_or (x ∷ xs) k d)
    at x xs one others zero less = one
    at x xs one others (suc k) less = others k (omega arith)

-- ---- words

pub some_or_none : {X : Type 0} (o : Option X) → ((x : X) × (o ≡ Some x)) ⊎ (o ≡ None)
some_or_none None = inr refl
some_or_none (Some x) = inl (x, refl)

-- a text is a word of a table, or none
pub word_or_none : {X : Type 0} (words : List (List ℕ × X)) (text : List ℕ) → ((x : X) × (word_in words text ≡ Some x)) ⊎ (word_in words text ≡ None)
word_or_none words text = some_or_none (word_in words text)

pub word_decided : {X : Type 0} (words : List (List ℕ × X)) (text : List ℕ) → IsDecided ((x : X) × (word_in words text ≡ Some x))
word_decided {X} words text = elim (word_or_none words text) [
  | inl x ↦ inl x
  | inr none ↦ inr (λ h. absurd (let no : None ≡ Some h.0 = sym none ∙ h.1 in cc))
]
