-- Lists and options by cases.
use Rattle.std.proofs.Common.{◌≡◌, ◌⊎◌, ℕ, zero, suc, List, [], ◌∷◌, Option, Some, None, refl, inl, inr}
use Rattle.std.specs.List.{slice_get}
use Rattle.std.proofs.lemmas.Bool.{cases_eq}
use Rattle.std.proofs.lemmas.Option.{same_Some}

-- an element of a list is its first, or one of the others
pub first_get : {X : Type 0} (x : X) (xs : List X) (k : ℕ) (y : X) → slice_get (x ∷ xs) k ≡ Some y → (x ≡ y) ⊎ ((j : ℕ) × (k ≡ suc j) × (slice_get xs j ≡ Some y))
first_get x xs zero y e = inl (same_Some x y e)
first_get x xs (suc k) y e = inr (k, refl, e)

-- a value is there, or none is
pub cases_Option : {X : Type 0} (o : Option X) → ((x : X) × (o ≡ Some x)) ⊎ (o ≡ None)
cases_Option (Some x) = inl (x, refl)
cases_Option None = inr refl

-- two texts are the same, or they aren't
pub cases_text : (a b : List ℕ) → (a ≡ b) ⊎ (a ≡ b → ⊥)
cases_text [] [] = inl refl
cases_text [] (d ∷ b) = inr (λ e. cc)
cases_text (c ∷ a) [] = inr (λ e. cc)
cases_text (c ∷ a) (d ∷ b) = elim (cases_eq c d) [
  | inl same ↦ elim (cases_text a b) [ inl rest ↦ inl (cc) | inr apart ↦ inr (λ e. apart (cc)) ]
  | inr apart ↦ inr (λ e. apart (cc))
]
