-- The values of parameters, and numbers that are below the bound.
use Rattle.std.proofs.Common.{◌≡◌, ℕ, ◌+◌, ◌*◌, ◌<◌, ◌≤◌, ◌==◌, ◌&&◌, ◌||◌, true, false, cond, ltb, leb, eqb, nat_lt, nat_le, if◌then◌else◌, Option, Some, None, List, [], ◌∷◌, length, refl, sym, ap, ◌∙◌, arith, inl, inr}
use Rattle.std.specs.Prelude.{option_and_then}
use Rattle.std.specs.List.{list_all}
use Rattle.std.specs.Char.{is_digit, digit_value}
use Rattle.std.specs.Str.Parse.{digits_value_after}
use Rattle.std.proofs.lemmas.Bool.{cases_Bool, cases_lt, lt-ltb, le-ltb, lt-leb, ne_eqb, and_right}
use Rattle.av_base.specs.Bounds.{number_bound, greatest_side}
use Rattle.y4m_header.specs.Params.{number_in, numbers_in, side_in, rate_in, aspect_in}
use Rattle.y4m_header.specs.Parts.{digits_from, below, small_in, pair_of, both_below, small_numbers_in, HasNoColon, IsAroundColon}
use Rattle.y4m_header.proofs.ColonLemmas.{numbers_around, numbers_none}

-- ---- digits

pub digits_grow : (m : ℕ) (cs : List ℕ) → m ≤ digits_value_after 10 m cs
digits_grow m [] = omega arith
digits_grow m (c ∷ cs) = let rest = digits_grow (m * 10 + digit_value c) cs in omega arith

pub below_yes : (n : ℕ) → n < number_bound → below n ≡ Some n
below_yes n less = rw (lt-ltb n number_bound less) refl

pub below_no : (n : ℕ) → number_bound ≤ n → below n ≡ None
below_no n more = rw (le-ltb n number_bound more) refl

-- all digits have a value
abbrev pub value_after : ℕ → List ℕ → Option ℕ
value_after n ds = cond (list_all (λ d. is_digit d 10) ds) (Some (digits_value_after 10 n ds)) None

too_large : (n : ℕ) (ds : List ℕ) → number_bound ≤ n → option_and_then below (value_after n ds) ≡ None
too_large n ds more = elim (cases_Bool (list_all (λ d. is_digit d 10) ds)) [
  | inl on ↦ let grown = digits_grow n ds in rw on (below_no (digits_value_after 10 n ds) (omega arith))
  | inr off ↦ rw off refl
]

digits_small : (n : ℕ) (ds : List ℕ) → n < number_bound → digits_from n ds ≡ option_and_then below (value_after n ds)
digits_small n [] less = sym (below_yes n less)
digits_small n (c ∷ cs) less = elim (cases_Bool (is_digit c 10)) [
  | inr off ↦ rw off refl
  | inl on ↦ elim (cases_lt (n * 10 + digit_value c) number_bound) [
    | inl fits ↦ rw (on, lt-ltb (n * 10 + digit_value c) number_bound fits) (digits_small (n * 10 + digit_value c) cs fits)
    | inr more ↦ rw (on, le-ltb (n * 10 + digit_value c) number_bound more) (sym (too_large (n * 10 + digit_value c) cs more))
  ]
]

pub small_digits : (text : List ℕ) → 0 < length text → digits_from 0 text ≡ small_in text
small_digits [] some = absurd (omega arith)
small_digits (c ∷ cs) some = digits_small 0 (c ∷ cs) (omega arith)

-- ---- sides

abbrev pub side_of : ℕ → Option ℕ
side_of n = if nat_lt 0 n && nat_le n greatest_side then Some n else None

side_part : (o : Option ℕ) → option_and_then side_of o ≡ option_and_then side_of (option_and_then below o)
side_part None = refl
side_part (Some n) = elim (cases_lt n number_bound) [
  | inl less ↦ rw (below_yes n less) refl
  | inr more ↦
      let large : leb n greatest_side ≡ false = lt-leb n greatest_side (omega arith) in
      rw (below_no n more) (rw (and_right (ltb 0 n) (leb n greatest_side) large) refl)
]

pub side_small : (value : List ℕ) → side_in value ≡ option_and_then side_of (small_in value)
side_small value = side_part (number_in value)

-- ---- two numbers

pub pair_off : (o : Option ℕ) → pair_of o None ≡ None
pair_off None = refl
pair_off (Some n) = refl

pair_small : (a b : Option ℕ) → option_and_then both_below (pair_of a b) ≡ pair_of (option_and_then below a) (option_and_then below b)
pair_small None b = refl
pair_small (Some n) None = sym (pair_off (below n))
pair_small (Some n) (Some d) = elim (cases_lt n number_bound) [
  | inr more ↦ rw (le-ltb n number_bound more) refl
  | inl less ↦ elim (cases_lt d number_bound) [
    | inr high ↦ rw (lt-ltb n number_bound less, le-ltb d number_bound high) refl
    | inl low ↦ rw (lt-ltb n number_bound less, lt-ltb d number_bound low) refl
  ]
]

pub small_numbers_around : {text before after : List ℕ} → IsAroundColon text before after → small_numbers_in text ≡ pair_of (small_in before) (small_in after)
small_numbers_around {text} {before} {after} a = ap (option_and_then both_below) (numbers_around a) ∙ pair_small (number_in before) (number_in after)

pub small_numbers_none : (text : List ℕ) → HasNoColon text → small_numbers_in text ≡ None
small_numbers_none text none = ap (option_and_then both_below) (numbers_none text none)

-- ---- rates and aspects

abbrev pub rate_of : ℕ × ℕ → Option (ℕ × ℕ)
rate_of (n, d) =
    if n == 0 && d == 0 then Some (25, 1) else
    if (nat_lt 0 n && nat_lt n number_bound) && (nat_lt 0 d && nat_lt d number_bound) then Some (n, d) else None

abbrev pub aspect_of : ℕ × ℕ → Option (ℕ × ℕ)
aspect_of (n, d) = if nat_lt n number_bound && nat_lt d number_bound then Some (if n == 0 || d == 0 then (0, 1) else (n, d)) else None

rate_part : (o : Option (ℕ × ℕ)) → option_and_then rate_of o ≡ option_and_then rate_of (option_and_then both_below o)
rate_part None = refl
rate_part (Some (n, d)) = elim (cases_lt n number_bound) [
  | inr more ↦
      let some : eqb n 0 ≡ false = ne_eqb n 0 (λ e. omega arith) in
      rw (some, le-ltb n number_bound more) (rw (and_right (ltb 0 n) false refl) refl)
  | inl less ↦ elim (cases_lt d number_bound) [
    | inr high ↦
        let some : eqb d 0 ≡ false = ne_eqb d 0 (λ e. omega arith) in
        rw (lt-ltb n number_bound less, le-ltb d number_bound high, some) (rw (and_right (eqb n 0) false refl, and_right (ltb 0 d) false refl, and_right (ltb 0 n && true) false refl) refl)
    | inl low ↦ rw (lt-ltb n number_bound less, lt-ltb d number_bound low) (rw (lt-ltb n number_bound less, lt-ltb d number_bound low) refl)
  ]
]

aspect_part : (o : Option (ℕ × ℕ)) → option_and_then aspect_of o ≡ option_and_then aspect_of (option_and_then both_below o)
aspect_part None = refl
aspect_part (Some (n, d)) = elim (cases_lt n number_bound) [
  | inr more ↦ rw (le-ltb n number_bound more) refl
  | inl less ↦ elim (cases_lt d number_bound) [
    | inr high ↦ rw (lt-ltb n number_bound less, le-ltb d number_bound high) refl
    | inl low ↦ rw (lt-ltb n number_bound less, lt-ltb d number_bound low) (rw (lt-ltb n number_bound less, lt-ltb d number_bound low) refl)
  ]
]

pub rate_small : (value : List ℕ) → rate_in value ≡ option_and_then rate_of (small_numbers_in value)
rate_small value = rate_part (numbers_in value)

pub aspect_small : (value : List ℕ) → aspect_in value ≡ option_and_then aspect_of (small_numbers_in value)
aspect_small value = aspect_part (numbers_in value)
