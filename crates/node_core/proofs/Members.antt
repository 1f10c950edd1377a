-- The elements of lists that are made of others.
use Rattle.std.proofs.Common.{◌≡◌, ◌+◌, ◌⊎◌, ℕ, zero, suc, Bool, true, false, cond, List, [], ◌∷◌, Some, map, filter, flat_map, refl, sym, ◌∙◌, ap, subst, inl, inr, arith}
use Rattle.std.specs.List.{slice_get, Contains, enumerate_from}
use Rattle.std.proofs.lemmas.List.Elements.{All-contains, filter_passes, Contains-append_cases, Contains-append_left, Contains-append_right}
use Rattle.std.proofs.lemmas.Option.{same_Some}
use Rattle.av_base.proofs.Lists.{contained, contained_cases, none_contained}

-- ---- map

pub in_map : {X Y : Type 0} (f : X → Y) (xs : List X) (y : Y) → Contains (map f xs) y → (x : X) × Contains xs x × (f x ≡ y)
in_map f [] y here = absurd (none_contained y here)
in_map f (x ∷ xs) y here = elim (contained_cases (f x) (map f xs) y here) [
  | inl same ↦ (x, contained (x ∷ xs) 0 x refl, same)
  | inr later ↦ (let rest = in_map f xs y later in (rest.0, Contains-append_right (x ∷ []) xs rest.0 rest.1, rest.2))
]

pub map_in : {X Y : Type 0} (f : X → Y) (xs : List X) (x : X) → Contains xs x → Contains (map f xs) (f x)
map_in f [] x here = absurd (none_contained x here)
map_in f (y ∷ xs) x here = elim (contained_cases y xs x here) [
  | inl same ↦ contained (f y ∷ map f xs) 0 (f x) (ap (λ z. Some (f z)) same)
  | inr later ↦ Contains-append_right (f y ∷ []) (map f xs) (f x) (map_in f xs x later)
]

-- ---- filter

pub in_filter : {X : Type 0} (test : X → Bool) (xs : List X) (x : X) → Contains (filter test xs) x → Contains xs x × (test x ≡ true)
in_filter {X} test xs x here = (was xs here, All-contains (λ y. test y ≡ true) (filter test xs) x (filter_passes test xs) here) where
  was : (ys : List X) → Contains (filter test ys) x → Contains ys x
  was [] h = h
  was (y ∷ ys) h = at (test y) h (was ys) where
    at : (b : Bool) → Contains (cond b (y ∷ filter test ys) (filter test ys)) x → (Contains (filter test ys) x → Contains ys x) → Contains (y ∷ ys) x
    at true h rest = elim (contained_cases y (filter test ys) x h) [
      | inl same ↦ contained (y ∷ ys) 0 x (ap Some same)
      | inr later ↦ Contains-append_right (y ∷ []) ys x (rest later)
    ]
    at false h rest = Contains-append_right (y ∷ []) ys x (rest h)

pub filter_in : {X : Type 0} (test : X → Bool) (xs : List X) (x : X) → Contains xs x → test x ≡ true → Contains (filter test xs) x
filter_in test [] x here passes = here
filter_in {X} test (y ∷ xs) x here passes = at (test y) refl (contained_cases y xs x here) (λ later. filter_in test xs x later passes) where
  at : (b : Bool) → test y ≡ b → (y ≡ x) ⊎ Contains xs x → (Contains xs x → Contains (filter test xs) x) → Contains (cond b (y ∷ filter test xs) (filter test xs)) x
  at true e (inl same) rest = contained (y ∷ filter test xs) 0 x (ap Some same)
  at true e (inr later) rest = Contains-append_right (y ∷ []) (filter test xs) x (rest later)
  at false e (inl same) rest = absurd (let fails : test x ≡ false = ap test (sym same) ∙ e in cc)
  at false e (inr later) rest = rest later

-- ---- flat_map

pub in_flat_map : {X Y : Type 0} (f : X → List Y) (xs : List X) (y : Y) → Contains (flat_map f xs) y → (x : X) × Contains xs x × Contains (f x) y
in_flat_map f [] y here = absurd (none_contained y here)
in_flat_map f (x ∷ xs) y here = elim (Contains-append_cases (f x) (flat_map f xs) y here) [
  | inl first ↦ (x, contained (x ∷ xs) 0 x refl, first)
  | inr later ↦ (let rest = in_flat_map f xs y later in (rest.0, Contains-append_right (x ∷ []) xs rest.0 rest.1, rest.2))
]

pub flat_map_in : {X Y : Type 0} (f : X → List Y) (xs : List X) (x : X) (y : Y) → Contains xs x → Contains (f x) y → Contains (flat_map f xs) y
flat_map_in f [] x y here of = absurd (none_contained x here)
flat_map_in {X} {Y} f (z ∷ xs) x y here of = elim (contained_cases z xs x here) [
  | inl same ↦ (let P : X → Type 0 = λ w. Contains (f w) y in Contains-append_left (f z) (flat_map f xs) y (subst P (sym same) of))
  | inr later ↦ Contains-append_right (f z) (flat_map f xs) y (flat_map_in f xs x y later of)
]

-- ---- places

enumerated_from : {X : Type 0} (n : ℕ) (xs : List X) (p : ℕ × X) → Contains (enumerate_from n xs) p → (j : ℕ) × (p.0 ≡ n + j) × (slice_get xs j ≡ Some p.1)
enumerated_from n [] p here = absurd (none_contained p here)
enumerated_from {X} n (x ∷ xs) p here = elim (contained_cases (let first : ℕ × X = (n, x) in first) (enumerate_from (n + 1) xs) p here) [
  | inl same ↦ (0, (let e : n ≡ p.0 = ap (λ (q : ℕ × X). q.0) same in omega arith), ap (λ (q : ℕ × X). Some q.1) same)
  | inr later ↦ (let rest = enumerated_from (n + 1) xs p later in (suc rest.0, (let e = rest.1 in omega arith), rest.2))
]

-- an element with its place
pub enumerated : {X : Type 0} (xs : List X) (p : ℕ × X) → Contains (enumerate_from 0 xs) p → slice_get xs p.0 ≡ Some p.1
enumerated xs p here =
    let at = enumerated_from 0 xs p here in
    let e : p.0 ≡ at.0 = (let f = at.1 in omega arith) in
    ap (slice_get xs) e ∙ at.2

enumerates_from : {X : Type 0} (n : ℕ) (xs : List X) (k : ℕ) (x : X) → slice_get xs k ≡ Some x → Contains (enumerate_from n xs) (n + k, x)
enumerates_from n [] k x e = absurd (cc)
enumerates_from {X} n (y ∷ xs) zero x e =
    let here : n ≡ n + 0 = omega arith in
    let same : y ≡ x = same_Some y x e in
    let first : ℕ × X = (n, y) in
    let is : first ≡ (n + 0, x) = cc in
    contained (first ∷ enumerate_from (n + 1) xs) 0 (n + 0, x) (ap Some is)
enumerates_from {X} n (y ∷ xs) (suc k) x e =
    let here : (n + 1) + k ≡ n + suc k = omega arith in
    let first : ℕ × X = (n, y) in
    let P : ℕ → Type 0 = λ m. Contains (enumerate_from (n + 1) xs) (m, x) in
    Contains-append_right (first ∷ []) (enumerate_from (n + 1) xs) (n + suc k, x) (subst P here (enumerates_from (n + 1) xs k x e))

pub enumerates : {X : Type 0} (xs : List X) (k : ℕ) (x : X) → slice_get xs k ≡ Some x → Contains (enumerate_from 0 xs) (k, x)
enumerates {X} xs k x e =
    let here : 0 + k ≡ k = omega arith in
    let P : ℕ → Type 0 = λ m. Contains (enumerate_from 0 xs) (m, x) in
    subst P here (enumerates_from 0 xs k x e)
