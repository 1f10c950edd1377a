-- Elements of lists by their places.
use Rattle.std.proofs.Common.{◌≡◌, ◌<◌, ◌+◌, ◌++◌, ◌⊎◌, ℕ, zero, suc, List, [], ◌∷◌, Some, length, get_or, drop, set, replicate, refl, sym, ◌∙◌, ap, arith, inl, inr}
use Rattle.std.specs.List.{slice_get, Contains}
use Rattle.std.proofs.lemmas.Option.{same_Some, slice_get_within, slice_get_read, get_or_from_slice_get}

-- ---- one list

pub cons_parts : {X : Type 0} {x y : X} {xs ys : List X} → x ∷ xs ≡ y ∷ ys → (x ≡ y) × (xs ≡ ys)
cons_parts {X} {x} e = (ap (λ (l : List X). get_or l 0 x) e, ap (drop 1) e)

pub get_within : {X : Type 0} (xs : List X) (k : ℕ) → k < length xs → (x : X) × (slice_get xs k ≡ Some x)
get_within [] k h = absurd (omega arith)
get_within (x ∷ xs) zero h = (x, refl)
get_within (x ∷ xs) (suc k) h = get_within xs k (omega arith)

pub contained : {X : Type 0} (xs : List X) (k : ℕ) (x : X) → slice_get xs k ≡ Some x → Contains xs x
contained xs k x e = (k, slice_get_within xs k x e, get_or_from_slice_get xs k x x e)

pub place_of : {X : Type 0} (xs : List X) (x : X) → Contains xs x → (k : ℕ) × (k < length xs) × (slice_get xs k ≡ Some x)
place_of xs x h = (h.0, h.1, slice_get_read xs (length xs) h.0 x refl h.1 (sym h.2))

pub none_contained : {X : Type 0} (x : X) → Contains [] x → ⊥
none_contained x h = let k : h.0 < 0 = h.1 in omega arith

-- an element of a list is its first, or one of the rest
pub contained_cases : {X : Type 0} (y : X) (xs : List X) (x : X) → Contains (y ∷ xs) x → (y ≡ x) ⊎ Contains xs x
contained_cases {X} y xs x here = let at = place_of (y ∷ xs) x here in which at.0 at.2 where
  which : (k : ℕ) → slice_get (y ∷ xs) k ≡ Some x → (y ≡ x) ⊎ Contains xs x
  which zero e = inl (same_Some y x e)
  which (suc k) e = inr (contained xs k x e)

-- lists of one length with the same elements at the same places are the same
pub same_gets : {X : Type 0} (xs ys : List X) → length xs ≡ length ys → ((k : ℕ) (x : X) → slice_get xs k ≡ Some x → slice_get ys k ≡ Some x) → xs ≡ ys
same_gets [] [] e f = refl
same_gets [] (y ∷ ys) e f = absurd (omega arith)
same_gets (x ∷ xs) [] e f = absurd (omega arith)
same_gets {X} (x ∷ xs) (y ∷ ys) e f =
    let first : y ≡ x = same_Some y x (f 0 x refl) in
    let rest : xs ≡ ys = same_gets xs ys (omega arith) (λ k z g. f (suc k) z g) in
    cc

pub get_replicate : {X : Type 0} (n : ℕ) (y : X) (k : ℕ) (x : X) → slice_get (replicate n y) k ≡ Some x → x ≡ y
get_replicate zero y k x e = absurd (cc)
get_replicate (suc n) y zero x e = sym (same_Some y x e)
get_replicate (suc n) y (suc k) x e = get_replicate n y k x e

-- ---- an element that is replaced

pub get_set_same : {X : Type 0} (xs : List X) (k : ℕ) (y : X) → k < length xs → slice_get (set xs k y) k ≡ Some y
get_set_same [] k y h = absurd (omega arith)
get_set_same (x ∷ xs) zero y h = refl
get_set_same (x ∷ xs) (suc k) y h = get_set_same xs k y (omega arith)

pub get_set_other : {X : Type 0} (xs : List X) (i k : ℕ) (y : X) → (k ≡ i → ⊥) → slice_get (set xs i y) k ≡ slice_get xs k
get_set_other [] i k y other = refl
get_set_other (x ∷ xs) zero zero y other = absurd (other refl)
get_set_other (x ∷ xs) zero (suc k) y other = refl
get_set_other (x ∷ xs) (suc i) zero y other = refl
get_set_other (x ∷ xs) (suc i) (suc k) y other = get_set_other xs i k y (λ same. other (ap suc same))

-- ---- two lists

-- an element of two lists is one of the first, or one of the second
pub append_get : {X : Type 0} (xs ys : List X) (k : ℕ) (x : X) → slice_get (xs ++ ys) k ≡ Some x
    → (slice_get xs k ≡ Some x) ⊎ ((j : ℕ) × (k ≡ length xs + j) × (slice_get ys j ≡ Some x))
append_get [] ys k x e = inr (k, omega arith, e)
append_get (y ∷ xs) ys zero x e = inl e
append_get (y ∷ xs) ys (suc k) x e = elim (append_get xs ys k x e) [
  | inl first ↦ inl first
  | inr second ↦ inr (second.0, (let at = second.1 in omega arith), second.2)
]

pub append_get_left : {X : Type 0} (xs ys : List X) (k : ℕ) (x : X) → slice_get xs k ≡ Some x → slice_get (xs ++ ys) k ≡ Some x
append_get_left [] ys k x e = absurd (cc)
append_get_left (y ∷ xs) ys zero x e = e
append_get_left (y ∷ xs) ys (suc k) x e = append_get_left xs ys k x e

pub append_get_right : {X : Type 0} (xs ys : List X) (k : ℕ) → slice_get (xs ++ ys) (length xs + k) ≡ slice_get ys k
append_get_right {X} [] ys k = let e : 0 + k ≡ k = omega arith in ap (slice_get ys) e
append_get_right {X} (x ∷ xs) ys k =
    let e : length (x ∷ xs) + k ≡ suc (length xs + k) = omega arith in
    ap (slice_get ((x ∷ xs) ++ ys)) e ∙ append_get_right xs ys k

-- ---- one element more

pub pushed_last : {X : Type 0} (xs : List X) (y : X) → slice_get (xs ++ y ∷ []) (length xs) ≡ Some y
pushed_last [] y = refl
pushed_last (x ∷ xs) y = pushed_last xs y

-- an element of a list that is one longer is one of the list, or the last
pub pushed_at : {X : Type 0} (xs : List X) (y : X) (k : ℕ) (x : X) → slice_get (xs ++ y ∷ []) k ≡ Some x → (slice_get xs k ≡ Some x) ⊎ ((k ≡ length xs) × (x ≡ y))
pushed_at [] y zero x e = inr (refl, sym (same_Some y x e))
pushed_at [] y (suc k) x e = absurd (cc)
pushed_at (z ∷ xs) y zero x e = inl e
pushed_at (z ∷ xs) y (suc k) x e = elim (pushed_at xs y k x e) [ inl h ↦ inl h | inr h ↦ inr (ap suc h.0, h.1) ]
