-- Walks over lists, one item after another.
use Rattle.std.proofs.Common.{◌≡◌, ◌<◌, ◌≤◌, ◌+◌, ◌∙◌, ℕ, List, Some, length, get_or, refl, sym, subst, arith, inl, inr}
use Rattle.std.specs.List.{slice_get}
use Rattle.std.proofs.lemmas.Bool.{cases_eq}
use Rattle.std.proofs.lemmas.Option.{same_Some, slice_get_within, slice_get_read}
use Rattle.frame_sync.specs.Framesync.{SomeOne, EachOne}

-- each item below an index is so
abbrev pub EachBelow : {X : Type 0} → (X → Type 0) → List X → ℕ → Type 0
EachBelow {X} P xs i = (k : ℕ) (x : X) → k < i → slice_get xs k ≡ Some x → P x

pub each_none : {X : Type 0} (P : X → Type 0) (xs : List X) → EachBelow P xs 0
each_none P xs k x lt e = absurd (omega arith)

pub each_more : {X : Type 0} (P : X → Type 0) (xs : List X) (i : ℕ) (x : X) → i < length xs → x ≡ get_or xs i x → EachBelow P xs i → P x → EachBelow P xs (i + 1)
each_more P xs i x within is before here k y lt e = elim (cases_eq k i) [
  | inl same ↦ subst P (same_Some x y (sym (slice_get_read xs (length xs) i x refl within is) ∙ subst (λ (n : ℕ). slice_get xs n ≡ Some y) same e)) here
  | inr apart ↦ before k y (omega arith) e
]

pub each_all : {X : Type 0} (P : X → Type 0) (xs : List X) (i : ℕ) → length xs ≤ i → EachBelow P xs i → EachOne xs P
each_all P xs i all before k x e = before k x (let lt = slice_get_within xs k x e in omega arith) e

pub some_here : {X : Type 0} (P : X → Type 0) (xs : List X) (i : ℕ) (x : X) → i < length xs → x ≡ get_or xs i x → P x → SomeOne xs P
some_here P xs i x within is here = (i, x, slice_get_read xs (length xs) i x refl within is, here)
