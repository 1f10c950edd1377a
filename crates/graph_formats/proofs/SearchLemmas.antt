-- What can be decided by trying all.
use Rattle.std.proofs.Common.{◌≡◌, ◌<◌, ◌⊎◌, ℕ, suc, zero, List, [], ◌∷◌, length, get_or, refl, sym, ap, subst, arith, inl, inr}
use Rattle.std.specs.List.{Contains}
use Rattle.std.proofs.lemmas.Bool.{cases_lt}
use Rattle.std.proofs.lemmas.List.{nil_from_length}
use Rattle.av_base.specs.declared.sets.TheConstants.{FORMATS}
use Rattle.av_base.specs.declared.formats.PixelFormat.TheVariants.{Gray}
use Rattle.av_base.specs.declared.formats.Format.{Format}
use Rattle.av_base.specs.declared.formats.Format.TheVariants.{Video}
use Rattle.av_base.specs.FormatSets.{place_of, Precedes}
use Rattle.av_base.proofs.FormatSetLemmas.{at_place, place_at, place_low}
use Rattle.av_base.proofs.Arithmetic.{first_or_none}
use Rattle.av_base.proofs.Lists.{none_contained, contained_cases}

-- it holds, or it doesn't
abbrev pub Known : Type 0 → Type 0
Known A = A ⊎ (A → ⊥)

pub known_along : {A B : Type 0} → (A → B) → (B → A) → Known A → Known B
known_along to from (inl is) = inl (to is)
known_along to from (inr not) = inr (λ is. not (from is))

pub known_both : {A B : Type 0} → Known A → Known B → Known (A × B)
known_both (inl a) (inl b) = inl (a, b)
known_both (inl a) (inr b) = inr (λ both. b both.1)
known_both (inr a) b = inr (λ both. a both.0)

pub known_one : {A B : Type 0} → Known A → Known B → Known (A ⊎ B)
known_one (inl a) b = inl (inl a)
known_one (inr a) (inl b) = inl (inr b)
known_one (inr a) (inr b) = inr (λ one. elim one [ inl x ↦ a x | inr y ↦ b y ])

pub known_if : {A B : Type 0} → Known A → Known B → Known (A → B)
known_if a (inl b) = inl (λ x. b)
known_if (inl a) (inr b) = inr (λ f. b (f a))
known_if (inr a) (inr b) = inl (λ x. absurd (a x))

pub known_not : {A : Type 0} → Known A → Known (A → ⊥)
known_not (inl a) = inr (λ f. f a)
known_not (inr a) = inl a

-- what holds of each number below one
pub known_below : (P : ℕ → Type 0) → ((k : ℕ) → Known (P k)) → (count : ℕ) → Known ((k : ℕ) → k < count → P k)
known_below P known count = elim (first_or_none (λ k. P k → ⊥) (λ k. (P k → ⊥) → ⊥) (λ k. known_not (known k)) count) [
  | inl found ↦ inr (λ all. found.2 (all found.0 found.1))
  | inr none ↦ inl (λ k low. elim (known k) [ inl is ↦ is | inr not ↦ absurd (none k low not) ])
]

-- what holds of each element of a list
pub known_each : {X : Type 0} (P : X → Type 0) → ((x : X) → Known (P x)) → (xs : List X) → Known ((x : X) → Contains xs x → P x)
known_each P known [] = inl (λ x here. absurd (none_contained x here))
known_each {X} P known (y ∷ ys) = elim (known y) [
  | inl first ↦ elim (known_each P known ys) [
    | inl rest ↦ inl (λ x here. elim (contained_cases y ys x here) [ inl same ↦ subst P same first | inr later ↦ rest x later ])
    | inr not ↦ inr (λ all. not (λ x later. all x (suc later.0, (let low = later.1 in omega arith), later.2)))
  ]
  | inr not ↦ inr (λ all. not (all y (0, omega arith, refl)))
]

-- a format of which something holds, the first in the format order
pub first_format : (P : Format → Type 0) → ((f : Format) → Known (P f)) → ((f : Format) × P f × ((g : Format) → Precedes g f → P g → ⊥)) ⊎ ((f : Format) → P f → ⊥)
first_format P known = elim (first_or_none (λ k. P (get_or FORMATS k (Video Gray))) (λ k. P (get_or FORMATS k (Video Gray)) → ⊥) (λ k. known (get_or FORMATS k (Video Gray))) 10) [
  | inl found ↦ inl (
    get_or FORMATS found.0 (Video Gray),
    found.2,
    λ g less is. found.3 (place_of g) (let here = place_at found.0 (Video Gray) found.1 in omega arith) (subst P (sym (at_place g (Video Gray))) is),
  )
  | inr none ↦ inr (λ f is. none (place_of f) (place_low f) (subst P (sym (at_place f (Video Gray))) is))
]

all_listings : (count : ℕ) (P : List Format → Type 0) → ((f : Format) → (rest : List Format) × (length rest ≡ count) × P (f ∷ rest) → ⊥) → (formats : List Format) → length formats ≡ suc count → P formats → ⊥
all_listings count P none [] e is = absurd (omega arith)
all_listings count P none (f ∷ rest) e is = none f (rest, (omega arith), is)

-- a listing of this length of which something holds
pub some_listing : (count : ℕ) (P : List Format → Type 0) → ((formats : List Format) → Known (P formats)) → ((formats : List Format) × (length formats ≡ count) × P formats) ⊎ ((formats : List Format) → length formats ≡ count → P formats → ⊥)
some_listing zero P known = elim (known []) [
  | inl is ↦ inl ([], refl, is)
  | inr not ↦ inr (λ formats none is. not (subst P (nil_from_length formats none) is))
]
some_listing (suc count) P known =
    let After : Format → Type 0 = λ f. (rest : List Format) × (length rest ≡ count) × P (f ∷ rest) in
    let later : (f : Format) → Known (After f) = (λ f. elim (some_listing count (λ rest. P (f ∷ rest)) (λ rest. known (f ∷ rest))) [
      | inl found ↦ inl found
      | inr none ↦ inr (λ is. none is.0 is.1 is.2)
    ]) in
    elim (first_format After later) [
      | inl found ↦ inl (found.0 ∷ found.1.0, ap suc found.1.1, found.1.2)
      | inr none ↦ inr (all_listings count P none)
    ]

pub known_three : {A B C : Type 0} → Known A → Known B → Known C → Known (A × B × C)
known_three (inl a) (inl b) (inl c) = inl (a, b, c)
known_three (inl a) (inl b) (inr c) = inr (λ all. c all.2)
known_three (inl a) (inr b) c = inr (λ all. b all.1)
known_three (inr a) b c = inr (λ all. a all.0)

pub known_less : (a b : ℕ) → Known (a < b)
known_less a b = elim (cases_lt a b) [ inl less ↦ inl less | inr not_less ↦ inr (λ less. omega arith) ]
