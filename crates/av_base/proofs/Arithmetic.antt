-- Signs and sizes, digits, and first numbers.
use Rattle.std.proofs.Common.{◌≡◌, ◌<◌, ◌*◌, ◌⊎◌, ℕ, zero, suc, ℤ, pos, negsuc, neg_ℤ, ◌*ℤ◌, refl, subst, arith, inl, inr}
use Rattle.std.specs.Prelude.{unsigned_abs}
use Rattle.std.specs.Str.Parse.{AllDigits, digits_value}
use Rattle.std.proofs.lemmas.Bool.{cases_lt}
use Rattle.std.proofs.lemmas.Int.{ints}
use Rattle.std.proofs.lemmas.Str.Parse.{IsNumeralModel, numerals_by_value, tells_digits}
use Rattle.av_base.specs.First.{IsFirst}

-- ---- signs and sizes

pub abs_neg : (z : ℤ) → unsigned_abs (neg_ℤ z) ≡ unsigned_abs z
abs_neg (pos zero) = refl
abs_neg (pos (suc n)) = refl
abs_neg (negsuc n) = refl

pub negative_times : (a b : ℕ) → neg_ℤ (pos a) *ℤ pos b ≡ neg_ℤ (pos (a * b))
negative_times zero b = omega (arith, ints)
negative_times (suc a) b = omega (arith, ints)

-- ---- products

pub some_factor : (x y n : ℕ) → x * y ≡ n → 0 < n → 0 < x
some_factor zero y n e h = absurd (omega arith)
some_factor (suc x) y n e h = omega arith

pub some_divisor : (x y n : ℕ) → x * y ≡ n → 0 < n → 0 < y
some_divisor x zero n e h = absurd (omega arith)
some_divisor x (suc y) n e h = omega arith

-- ---- digits

-- numerals are lists of digits with their value
pub are_numerals : IsNumeralModel (AllDigits 10) (digits_value 10)
are_numerals = numerals_by_value (AllDigits 10) tells_digits

-- ---- first numbers

pub first_same : {P : ℕ → Type 0} {a b : ℕ} → IsFirst P a → IsFirst P b → a ≡ b
first_same {P} {a} {b} p q = elim (cases_lt a b) [
  | inl h ↦ absurd (q.none_before a h p.holds)
  | inr h ↦ elim (cases_lt b a) [ inl g ↦ absurd (p.none_before b g q.holds) | inr g ↦ omega arith ]
]

pub first_along : {P Q : ℕ → Type 0} {a : ℕ} → ((k : ℕ) → P k → Q k) → ((k : ℕ) → Q k → P k) → IsFirst P a → IsFirst Q a
first_along {P} {Q} {a} f g h = record { holds = f a h.holds; none_before = λ other lt q. h.none_before other lt (g other q) }

-- each number has the one property or the other: a first one below a count has the one, or all below it have the other
pub first_or_none : (P Q : ℕ → Type 0) → ((k : ℕ) → P k ⊎ Q k) → (count : ℕ) → ((k : ℕ) × (k < count) × P k × ((j : ℕ) → j < k → Q j)) ⊎ ((k : ℕ) → k < count → Q k)
first_or_none P Q either zero = inr (λ k low. absurd (omega arith))
first_or_none P Q either (suc count) = elim (first_or_none P Q either count) [
  | inl first ↦ inl (first.0, (let low = first.1 in omega arith), first.2, first.3)
  | inr none ↦ elim (either count) [
    | inl here ↦ inl (count, omega arith, here, none)
    | inr not_here ↦ inr (λ k low. elim (cases_lt k count) [
      | inl less ↦ none k less
      | inr past ↦ (let same : count ≡ k = omega arith in subst Q same not_here)
    ])
  ]
]
