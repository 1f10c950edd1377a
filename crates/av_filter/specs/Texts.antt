-- Whole numbers in texts, and facts that are decided.
use Rattle.std.specs.Prelude.{◌≡◌, ◌<◌, ◌≤◌, ◌+◌, ◌⊎◌, Bool, true, false, nat_eq, ℕ, ℤ, pos, negsuc, neg_ℤ, ◌≤ℤ◌, List, [], ◌∷◌, length, refl}
use Rattle.std.specs.Char.{digit_value}
use Rattle.std.specs.Cmp.Lexicographic.{pointwise, same_text, other_text}
use Rattle.std.specs.Str.Parse.{AllDigits, digits_value}
use Rattle.std.proofs.Common.{inl, inr, ◌∙◌, sym, ap, subst, arith}
use Rattle.std.proofs.lemmas.Bool.{cases_lt, cases_eq}
use Rattle.std.proofs.lemmas.Int.{ints}
use borrow.Author.Differences.{up, down}
use Rattle.av_text.specs.Numbers.{IsNumber, IsSigned, IsWhole}
use Rattle.av_filter.specs.Options.{IsWholeWithin}
use Rattle.av_filter.specs.Outcomes.{IsOne}
use Rattle.av_filter.specs.Decisions.{IsDecided}

-- ---- whole numbers in texts

all_digits_decided : (text : List ℕ) → IsDecided (AllDigits 10 text)
all_digits_decided [] = inl tt
all_digits_decided (c ∷ text) = elim (cases_lt (digit_value c) 10) [
  | inr other ↦ inr (λ all. let digit = all.0 in omega arith)
  | inl digit ↦ elim (all_digits_decided text) [
    | inl all ↦ inl (digit, all)
    | inr none ↦ inr (λ all. none all.1)
  ]
]

number_or : (text : List ℕ) → ((n : ℕ) × IsNumber 1 18 text n) ⊎ ((n : ℕ) → ¬ IsNumber 1 18 text n)
number_or text = elim (all_digits_decided text) [
  | inr none ↦ inr (λ n h. none h.digits)
  | inl all ↦ elim (cases_lt 0 (length text)) [
    | inr empty ↦ inr (λ n h. let some = h.enough in omega arith)
    | inl some ↦ elim (cases_lt 18 (length text)) [
      | inl many ↦ inr (λ n h. let few = h.few in omega arith)
      | inr few ↦ inl (digits_value 10 text, record { digits = all; enough = some; few = few; value = refl })
    ]
  ]
]

some_signed : {text digits : List ℕ} {n : ℕ} {z : ℤ} → 1 ≤ length digits → IsSigned text digits n z → text ≡ [] → ⊥
some_signed {text} {digits} {n} {z} some s e = by s.sign
  where
    by : ((text ≡ digits) × (z ≡ pos n)) ⊎ ((text ≡ 45 ∷ digits) × (z ≡ neg_ℤ (pos n))) → ⊥
    by (inl p) = let long = ap length (sym p.0 ∙ e) in omega arith
    by (inr p) = let long = ap length (sym p.0 ∙ e) in omega arith

cons_is : {c d : ℕ} {xs ys : List ℕ} → c ∷ xs ≡ d ∷ ys → (c ≡ d) × (xs ≡ ys)
cons_is e = (cc, cc)

-- a text says a whole number, or none
whole_or : (text : List ℕ) → ((z : ℤ) × IsWhole text z) ⊎ ((z : ℤ) → ¬ IsWhole text z)
whole_or text = elim (number_or text) [
  | inl m ↦ inl (pos m.0, (text, m.0, m.1, record { sign = inl (refl, refl) }))
  | inr none ↦ signed text none
]
  where
    signed : (text : List ℕ) → ((n : ℕ) → ¬ IsNumber 1 18 text n) → ((z : ℤ) × IsWhole text z) ⊎ ((z : ℤ) → ¬ IsWhole text z)
    signed [] none = inr (λ z w. some_signed w.2.enough w.3 refl)
    signed (c ∷ rest) none = elim (cases_eq c 45) [
      | inr other ↦ inr (λ z w. elim w.3.sign [
        | inl p ↦ none w.1 (subst (λ (t : List ℕ). IsNumber 1 18 t w.1) (sym p.0) w.2)
        | inr p ↦ other (cons_is p.0).0
      ])
      | inl minus ↦ elim (number_or rest) [
        | inl m ↦ inl (neg_ℤ (pos m.0), (rest, m.0, m.1, record { sign = inr (ap (λ (d : ℕ). d ∷ rest) minus, refl) }))
        | inr lacks ↦ inr (λ z w. elim w.3.sign [
          | inl p ↦ none w.1 (subst (λ (t : List ℕ). IsNumber 1 18 t w.1) (sym p.0) w.2)
          | inr p ↦ lacks w.1 (subst (λ (t : List ℕ). IsNumber 1 18 t w.1) (sym (cons_is p.0).1) w.2)
        ])
      ]
    ]

no_sign : (digits : List ℕ) → AllDigits 10 (45 ∷ digits) → ⊥
no_sign digits all = let first = all.0 in omega arith

-- and one at most
whole_one : (text : List ℕ) (y z : ℤ) → IsWhole text y → IsWhole text z → y ≡ z
whole_one text y z p q = by p.3.sign q.3.sign
  where
    by : ((text ≡ p.0) × (y ≡ pos p.1)) ⊎ ((text ≡ 45 ∷ p.0) × (y ≡ neg_ℤ (pos p.1))) → ((text ≡ q.0) × (z ≡ pos q.1)) ⊎ ((text ≡ 45 ∷ q.0) × (z ≡ neg_ℤ (pos q.1))) → y ≡ z
    by (inl a) (inl b) = let m = p.2.value in let n = q.2.value in cc
    by (inl a) (inr b) = absurd (no_sign q.0 (subst (AllDigits 10) (sym a.0 ∙ b.0) p.2.digits))
    by (inr a) (inl b) = absurd (no_sign p.0 (subst (AllDigits 10) (sym b.0 ∙ a.0) q.2.digits))
    by (inr a) (inr b) = let m = p.2.value in let n = q.2.value in cc

pub at_most_decided : (a b : ℤ) → IsDecided (a ≤ℤ b)
at_most_decided a b = elim (cases_lt (up b + down a) (up a + down b)) [
  | inl less ↦ inr (λ h. omega (arith, ints))
  | inr more ↦ inl (omega (arith, ints))
]

-- a text says a whole number within limits, or it doesn't
pub within_decided : (least most : ℤ) (text : List ℕ) → IsDecided ((z : ℤ) × IsWholeWithin least most text z)
within_decided least most text = elim (whole_or text) [
  | inr none ↦ inr (λ h. none h.0 h.1.whole)
  | inl w ↦ elim (at_most_decided least w.0) [
    | inr low ↦ inr (λ h. low (subst (λ (z : ℤ). least ≤ℤ z) (whole_one text h.0 w.0 h.1.whole w.1) h.1.low))
    | inl low ↦ elim (at_most_decided w.0 most) [
      | inr high ↦ inr (λ h. high (subst (λ (z : ℤ). z ≤ℤ most) (whole_one text h.0 w.0 h.1.whole w.1) h.1.high))
      | inl high ↦ inl (w.0, record { whole = w.1; low = low; high = high })
    ]
  ]
]

-- the same of natural numbers
pub natural_decided : (most : ℤ) (text : List ℕ) → IsDecided ((n : ℕ) × IsWholeWithin (pos 0) most text (pos n))
natural_decided most text = elim (within_decided (pos 0) most text) [
  | inr none ↦ inr (λ h. none (pos h.0, h.1))
  | inl w ↦ inl (by w.0 w.1)
]
  where
    by : (z : ℤ) → IsWholeWithin (pos 0) most text z → (n : ℕ) × IsWholeWithin (pos 0) most text (pos n)
    by (pos n) w = (n, w)
    by (negsuc n) w = let low = w.low in absurd (omega (arith, ints))

-- ---- texts

pub text_decided : (a b : List ℕ) → IsDecided (a ≡ b)
text_decided a b = by (pointwise nat_eq a b) refl
  where
    by : (t : Bool) → t ≡ pointwise nat_eq a b → IsDecided (a ≡ b)
    by true e = inl (same_text a b e)
    by false e = inr (other_text a b e)

-- two facts that are decided are so together
pub both_decided : {P Q : Type 0} → IsDecided P → IsDecided Q → IsDecided (P × Q)
both_decided (inl p) (inl q) = inl (p, q)
both_decided (inl p) (inr lacks) = inr (λ h. lacks h.1)
both_decided (inr lacks) q = inr (λ h. lacks h.0)

pub less_decided : (a b : ℕ) → IsDecided (a < b)
less_decided a b = elim (cases_lt a b) [
  | inl less ↦ inl less
  | inr more ↦ inr (λ h. omega arith)
]

-- a text says one number within limits at most
pub within_one : {low high : ℤ} {text : List ℕ} → IsOne (IsWholeWithin low high text)
within_one {text = text} y z p q = whole_one text y z p.whole q.whole
