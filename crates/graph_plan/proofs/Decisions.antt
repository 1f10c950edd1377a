-- Whether something is so.
use Rattle.std.proofs.Common.{◌≡◌, ◌<◌, ◌⊎◌, ℕ, List, [], ◌∷◌, Option, Some, None, length, refl, sym, subst, inl, inr, arith}
use Rattle.std.specs.List.{slice_get, Contains}
use Rattle.std.proofs.lemmas.Bool.{cases_lt}
use Rattle.std.proofs.lemmas.List.Elements.{Contains-append_right}
use Rattle.std.proofs.lemmas.Option.{same_Some, slice_get_within}
use Rattle.av_base.specs.First.{IsFirst, Never}
use Rattle.av_base.proofs.Lists.{contained, contained_cases, none_contained}
use Rattle.av_base.proofs.Arithmetic.{first_or_none}
use Rattle.graph_plan.specs.Graphs.{item_of, item}
use Rattle.graph_plan.proofs.GraphLemmas.{item_filter}

abbrev pub Decided : Type 0 → Type 0
Decided P = P ⊎ ¬ P

-- ---- of several

pub decide_both : {P Q : Type 0} → Decided P → Decided Q → Decided (P × Q)
decide_both (inl p) (inl q) = inl (p, q)
decide_both (inl p) (inr none) = inr (λ h. none h.1)
decide_both (inr none) q = inr (λ h. none h.0)

pub decide_either : {P Q : Type 0} → Decided P → Decided Q → Decided (P ⊎ Q)
decide_either (inl p) q = inl (inl p)
decide_either (inr none) (inl q) = inl (inr q)
decide_either (inr none) (inr neither) = inr (λ h. elim h [ inl p ↦ none p | inr q ↦ neither q ])

pub decide_not : {P : Type 0} → Decided P → Decided (¬ P)
decide_not (inl p) = inr (λ none. none p)
decide_not (inr none) = inl none

-- what is decided in other words
pub decide_along : {P Q : Type 0} → (P → Q) → (Q → P) → Decided P → Decided Q
decide_along to back (inl p) = inl (to p)
decide_along to back (inr none) = inr (λ q. none (back q))

-- ---- numbers

pub decide_less : (a b : ℕ) → Decided (a < b)
decide_less a b = elim (cases_lt a b) [ inl less ↦ inl less | inr past ↦ inr (λ less. omega arith) ]

-- some number below the count is such
pub decide_below : (P : ℕ → Type 0) (count : ℕ) → ((k : ℕ) → P k → k < count) → ((k : ℕ) → Decided (P k)) → Decided ((k : ℕ) × P k)
decide_below P count low d = elim (first_or_none P (λ k. ¬ P k) d count) [
  | inl found ↦ inl (found.0, found.2)
  | inr none ↦ inr (λ h. none h.0 (low h.0 h.1) h.1)
]

-- there is a first such number, or none is such
pub first_or_never : (P : ℕ → Type 0) (count : ℕ) → ((k : ℕ) → P k → k < count) → ((k : ℕ) → Decided (P k)) → ((k : ℕ) × IsFirst P k) ⊎ Never P
first_or_never P count low d = elim (first_or_none P (λ k. ¬ P k) d count) [
  | inl found ↦ inl (found.0, record { holds = found.2; none_before = found.3 })
  | inr none ↦ inr (λ k p. none k (low k p) p)
]

-- ---- values

-- a value is there and is such
pub decide_value : {X : Type 0} (o : Option X) (P : X → Type 0) → ((x : X) → Decided (P x)) → Decided ((x : X) × (o ≡ Some x) × P x)
decide_value None P d = inr (λ h. let some = h.1 in cc)
decide_value (Some y) P d = decide_along (λ p. (y, refl, p)) (λ h. subst P (sym (same_Some y h.0 h.1)) h.2) (d y)

-- some element of a list is such
pub decide_listed : {X : Type 0} (xs : List X) (P : X → Type 0) → ((x : X) → Decided (P x)) → Decided ((x : X) × Contains xs x × P x)
decide_listed [] P d = inr (λ h. none_contained h.0 h.1)
decide_listed {X} (y ∷ xs) P d = decide_along
    (λ h. elim h [
      | inl p ↦ (y, contained (y ∷ xs) 0 y refl, p)
      | inr rest ↦ (rest.0, Contains-append_right (y ∷ []) xs rest.0 rest.1, rest.2)
    ])
    (λ h. elim (contained_cases y xs h.0 h.1) [ inl same ↦ inl (subst P (sym same) h.2) | inr rest ↦ inr (h.0, rest, h.2) ])
    (decide_either (d y) (decide_listed xs P d))

-- ---- items of a filter's list

-- the list that belongs to one of these
abbrev list_of : {X Y : Type 0} → (X → List Y) → Option X → List Y
list_of list None = []
list_of list (Some x) = list x

number_low : {X Y : Type 0} (list : X → List Y) (o : Option X) (number : ℕ) (y : Y) → item_of list o number ≡ Some y → number < length (list_of list o)
number_low list None number y e = absurd (cc)
number_low list (Some x) number y e = slice_get_within (list x) number y e

-- some item of a filter is such
pub decide_row : {X Y : Type 0} (list : X → List Y) (xs : List X) (filter : ℕ) (P : ℕ → Y → Type 0) → ((number : ℕ) (y : Y) → Decided (P number y))
    → Decided ((number : ℕ) × (y : Y) × (item list xs filter number ≡ Some y) × P number y)
decide_row {X} {Y} list xs filter P d =
    let Q : ℕ → Type 0 = λ number. (y : Y) × (item list xs filter number ≡ Some y) × P number y in
    decide_along (λ h. (h.0, h.1.0, h.1.1, h.1.2)) (λ h. (h.0, (h.1, h.2, h.3)))
    (decide_below Q (length (list_of list (slice_get xs filter))) (λ number h. number_low list (slice_get xs filter) number h.0 h.1)
    (λ number. decide_value (item list xs filter number) (P number) (d number)))

-- some item of any filter is such
pub decide_item : {X Y : Type 0} (list : X → List Y) (xs : List X) (P : ℕ → ℕ → Y → Type 0) → ((filter number : ℕ) (y : Y) → Decided (P filter number y))
    → Decided ((filter number : ℕ) × (y : Y) × (item list xs filter number ≡ Some y) × P filter number y)
decide_item {X} {Y} list xs P d =
    let Q : ℕ → Type 0 = λ filter. (number : ℕ) × (y : Y) × (item list xs filter number ≡ Some y) × P filter number y in
    decide_along (λ h. (h.0, h.1.0, h.1.1, h.1.2, h.1.3)) (λ h. (h.0, (h.1, h.2, h.3, h.4)))
    (decide_below Q (length xs) (λ filter h. item_filter list xs filter h.0 h.1 h.2) (λ filter. decide_row list xs filter (P filter) (d filter)))
