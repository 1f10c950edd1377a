-- Rising lists of times, and what they have.
use Rattle.std.proofs.Common.{◌≡◌, ◌<ℤ◌, ◌≤ℤ◌, ◌++◌, ◌∙◌, ◌⊎◌, ℕ, zero, suc, ℤ, List, [], ◌∷◌, Some, length, refl, sym, arith, inl, inr}
use Rattle.std.specs.List.{slice_get}
use Rattle.std.proofs.lemmas.Bool.{cases_lt}
use Rattle.std.proofs.lemmas.Int.{ints}
use Rattle.std.proofs.lemmas.Option.{same_Some, none-some, slice_get_within}
use Rattle.frame_sync.specs.Framesync.{SomeOne, EachOne, IsRising}
use Rattle.av_base.proofs.Lists.{pushed_at, pushed_last, append_get_left}
use Rattle.frame_sync.specs.Laws.{BeginsList}

-- a list has a time
abbrev pub Has : List ℤ → ℤ → Type 0
Has ts t = SomeOne ts (λ u. u ≡ t)

-- two places of one time are one
pub one_place : (ts : List ℤ) (m n : ℕ) (t : ℤ) → IsRising ts → slice_get ts m ≡ Some t → slice_get ts n ≡ Some t → m ≡ n
one_place ts m n t rising e f = elim (cases_lt m n) [
  | inl lt ↦ absurd (let p : t <ℤ t = rising m n t t lt e f in omega (arith, ints))
  | inr le ↦ elim (cases_lt n m) [ inl lt ↦ absurd (let p : t <ℤ t = rising n m t t lt f e in omega (arith, ints)) | inr ge ↦ omega arith ]
]

pub has_last : (ts : List ℤ) (t : ℤ) → Has (ts ++ t ∷ []) t
has_last ts t = (length ts, t, pushed_last ts t, refl)

pub has_pushed : (ts : List ℤ) (t u : ℤ) → Has ts u → Has (ts ++ t ∷ []) u
has_pushed ts t u h = (h.0, h.1, append_get_left ts (t ∷ []) h.0 h.1 h.2, h.3)

pub pushed_has : (ts : List ℤ) (t u : ℤ) → Has (ts ++ t ∷ []) u → Has ts u ⊎ (u ≡ t)
pushed_has ts t u h = elim (pushed_at ts t h.0 h.1 h.2) [ inl a ↦ inl (h.0, h.1, a, h.3) | inr a ↦ inr (sym h.3 ∙ a.1) ]

-- a time after a rising list isn't in it
pub not_before : (ts : List ℤ) (t : ℤ) → IsRising (ts ++ t ∷ []) → Has ts t → ⊥
not_before ts t rising h =
    let lt = slice_get_within ts h.0 h.1 h.2 in
    let p : h.1 <ℤ t = rising h.0 (length ts) h.1 t lt (append_get_left ts (t ∷ []) h.0 h.1 h.2) (pushed_last ts t) in
    let q : h.1 ≡ t = h.3 in
    omega (arith, ints)

rising_tail : (x : ℤ) (xs : List ℤ) → IsRising (x ∷ xs) → IsRising xs
rising_tail x xs r m n t u lt e f = r (suc m) (suc n) t u (omega arith) e f

rising_head : (x : ℤ) (xs : List ℤ) → IsRising (x ∷ xs) → EachOne xs (λ u. x <ℤ u)
rising_head x xs r k u e = r 0 (suc k) x u (omega arith) refl e

has_cons : (x : ℤ) (xs : List ℤ) (t : ℤ) → Has xs t → Has (x ∷ xs) t
has_cons x xs t h = (suc h.0, h.1, h.2, h.3)

has_cases : (x : ℤ) (xs : List ℤ) (t : ℤ) → Has (x ∷ xs) t → (x ≡ t) ⊎ Has xs t
has_cases x xs t (zero, u, e, same) = inl (same_Some x u e ∙ same)
has_cases x xs t (suc k, u, e, same) = inr (k, u, e, same)

-- they begin with the same time
begins_more : (x y : ℤ) (xs ys : List ℤ) → IsRising (x ∷ xs) → IsRising (y ∷ ys) → ((t : ℤ) → Has (x ∷ xs) t → Has (y ∷ ys) t) → ((t u : ℤ) → Has (y ∷ ys) t → Has (x ∷ xs) u → t ≤ℤ u → Has (x ∷ xs) t)
    → (((t : ℤ) → Has xs t → Has ys t) → ((t u : ℤ) → Has ys t → Has xs u → t ≤ℤ u → Has xs t) → BeginsList xs ys) → BeginsList (x ∷ xs) (y ∷ ys)
begins_more x y xs ys p q within first then = (let rest = then within_rest first_rest in (rest.0, (let a = same in let b = rest.1 in cc))) where
  y_le : y ≤ℤ x
  y_le = elim (has_cases y ys x (within x (0, x, refl, refl))) [
    | inl here ↦ omega (arith, ints)
    | inr later ↦ (let a : y <ℤ later.1 = rising_head y ys q later.0 later.1 later.2 in let b : later.1 ≡ x = later.3 in omega (arith, ints))
  ]

  same : y ≡ x
  same = elim (has_cases x xs y (first y x (0, y, refl, refl) (0, x, refl, refl) y_le)) [
    | inl here ↦ sym here
    | inr later ↦ absurd (let a : x <ℤ later.1 = rising_head x xs p later.0 later.1 later.2 in let b : later.1 ≡ y = later.3 in let c = y_le in omega (arith, ints))
  ]

  within_rest : (t : ℤ) → Has xs t → Has ys t
  within_rest t h = elim (has_cases y ys t (within t (has_cons x xs t h))) [
    | inl here ↦ absurd (let a : x <ℤ h.1 = rising_head x xs p h.0 h.1 h.2 in let b : h.1 ≡ t = h.3 in let c = same in omega (arith, ints))
    | inr later ↦ later
  ]

  first_rest : (t u : ℤ) → Has ys t → Has xs u → t ≤ℤ u → Has xs t
  first_rest t u a b le = elim (has_cases x xs t (first t u (has_cons y ys t a) (has_cons x xs u b) le)) [
    | inl here ↦ absurd (let d : y <ℤ a.1 = rising_head y ys q a.0 a.1 a.2 in let e : a.1 ≡ t = a.3 in let f = same in omega (arith, ints))
    | inr later ↦ later
  ]

-- a rising list that has the first of another's times begins it
pub begins : (xs ys : List ℤ) → IsRising xs → IsRising ys → ((t : ℤ) → Has xs t → Has ys t) → ((t u : ℤ) → Has ys t → Has xs u → t ≤ℤ u → Has xs t) → BeginsList xs ys
begins [] ys p q within first = (ys, refl)
begins (x ∷ xs) [] p q within first = absurd (let h = within x (0, x, refl, refl) in none-some h.1 h.2)
begins (x ∷ xs) (y ∷ ys) p q within first = begins_more x y xs ys p q within first (begins xs ys (rising_tail x xs p) (rising_tail y ys q))

same_lists : (xs ys : List ℤ) → BeginsList xs ys → BeginsList ys xs → xs ≡ ys
same_lists [] [] a b = refl
same_lists [] (y ∷ ys) a b = absurd (let e = b.1 in cc)
same_lists (x ∷ xs) [] a b = absurd (let e = a.1 in cc)
same_lists (x ∷ xs) (y ∷ ys) a b = (let e : ys ≡ xs ++ a.0 = (let h = a.1 in cc) in let f : xs ≡ ys ++ b.0 = (let h = b.1 in cc) in let g = same_lists xs ys (a.0, e) (b.0, f) in let h = a.1 in cc)

-- two rising lists with the same times are one
pub one_list : (xs ys : List ℤ) → IsRising xs → IsRising ys → ((t : ℤ) → Has xs t → Has ys t) → ((t : ℤ) → Has ys t → Has xs t) → xs ≡ ys
one_list xs ys p q f g =
    let a : BeginsList xs ys = begins xs ys p q f (λ t u h _ _. g t h) in
    let b : BeginsList ys xs = begins ys xs q p g (λ t u h _ _. f t h) in
    same_lists xs ys a b
