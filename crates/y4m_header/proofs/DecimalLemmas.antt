-- Values that are written are read again.
use Rattle.std.proofs.Common.{◌≡◌, ℕ, ◌<◌, ◌≤◌, ◌^◌, true, false, eqb, nat_lt, nat_eq, Some, List, [], ◌∷◌, length, refl, sym, ap, ◌∙◌, subst, arith, inl, inr}
use Rattle.std.specs.Prelude.{option_and_then, Contains}
use Rattle.std.specs.Int.{IsGcd}
use Rattle.std.specs.List.{list_all, list_any}
use Rattle.std.specs.Char.{is_digit, digit_value}
use Rattle.std.specs.Fmt.{decimal}
use Rattle.std.specs.Str.Parse.{AllDigits, digits_value}
use Rattle.std.proofs.lemmas.Bool.{lt-ltb, le-leb, and_from, or_from, ne_eqb, eq-eqb, cases_eq}
use Rattle.std.proofs.lemmas.Fmt.{decimal_is_IsNumeral, decimal_nonempty}
use Rattle.std.proofs.lemmas.List.Folds.{list_any_at}
use Rattle.std.proofs.lemmas.Nat.Gcd.{IsGcd-swap, IsGcd-from_zero, same_from_IsGcd}
use Rattle.std.proofs.lemmas.Str.Parse.{digit_from_value}
use Rattle.av_base.specs.declared.numbers.Ratio.{Ratio}
use Rattle.av_base.specs.Bounds.{number_bound, greatest_side}
use Rattle.av_base.specs.Numbers.{IsRatio}
use Rattle.av_base.specs.Reduced.{IsReduced}
use Rattle.av_base.specs.Shapes.{scan_letters}
use Rattle.y4m_header.specs.HeaderTexts.{ratio_text, aspect_text}
use Rattle.y4m_header.specs.Params.{is_colon, number_in, numbers_in, side_in, rate_in, aspect_in, scan_in}
use Rattle.y4m_header.specs.Parts.{HasNoColon}
use Rattle.y4m_header.proofs.ColonLemmas.{numbers_around}
use Rattle.y4m_header.proofs.ValueLemmas.{side_of, rate_of, aspect_of}

-- ---- digits

pub digits_pass : (ds : List ℕ) → AllDigits 10 ds → list_all (λ d. is_digit d 10) ds ≡ true
digits_pass [] h = refl
digits_pass (c ∷ cs) h = and_from (is_digit c 10) (list_all (λ d. is_digit d 10) cs) (lt-ltb (digit_value c) 10 h.0) (digits_pass cs h.1)

-- digits are greater than each code below that of 0
pub digits_above : (k : ℕ) (ds : List ℕ) → k < 48 → AllDigits 10 ds → list_all (nat_lt k) ds ≡ true
digits_above k [] low h = refl
digits_above k (c ∷ cs) low h =
    let digit = digit_from_value c h.0 in
    and_from (nat_lt k c) (list_all (nat_lt k) cs) (lt-ltb k c (let least = digit.0 in omega arith)) (digits_above k cs low h.1)

digits_no_colon : (ds : List ℕ) → AllDigits 10 ds → HasNoColon ds
digits_no_colon [] h = refl
digits_no_colon (c ∷ cs) h =
    let digit = digit_from_value c h.0 in
    or_from (is_colon c) (list_any is_colon cs) (ne_eqb c 58 (λ e. let most = digit.1 in omega arith)) (digits_no_colon cs h.1)

number_digits : (ds : List ℕ) → AllDigits 10 ds → 0 < length ds → number_in ds ≡ Some (digits_value 10 ds)
number_digits [] h some = absurd (omega arith)
number_digits (c ∷ cs) h some = rw (digits_pass (c ∷ cs) h) refl

decimal_digits : (n : ℕ) → n < 2 ^ 32 → AllDigits 10 (decimal n)
decimal_digits n h = (decimal_is_IsNumeral n (omega arith)).0.1

pub decimal_above : (k n : ℕ) → k < 48 → n < 2 ^ 32 → list_all (nat_lt k) (decimal n) ≡ true
decimal_above k n low h = digits_above k (decimal n) low (decimal_digits n h)

pub number_decimal : (n : ℕ) → n < 2 ^ 32 → number_in (decimal n) ≡ Some n
number_decimal n h =
    number_digits (decimal n) (decimal_digits n h) (decimal_nonempty n (omega arith)) ∙ ap (λ (m : ℕ). Some m) ((decimal_is_IsNumeral n (omega arith)).1)

pub numbers_ratio : (n d : ℕ) → n < 2 ^ 32 → d < 2 ^ 32 → numbers_in (ratio_text n d) ≡ Some (n, d)
numbers_ratio n d low high =
    numbers_around {text = ratio_text n d} {before = decimal n} {after = decimal d} (record { text_is = refl; first = digits_no_colon (decimal n) (decimal_digits n low) })
    ∙ rw (number_decimal n low, number_decimal d high) refl

-- ---- values

pub side_decimal : (n : ℕ) → 0 < n → n ≤ greatest_side → side_in (decimal n) ≡ Some n
side_decimal n some most = ap (option_and_then side_of) (number_decimal n (omega arith)) ∙ rw (lt-ltb 0 n some, le-leb n greatest_side most) refl

pub rate_written : (r : Ratio) → IsRatio r → 0 < r.num → rate_in (ratio_text r.num r.den) ≡ Some (r.num, r.den)
rate_written r is some =
    let num = is.num_fits in
    let den = is.den_fits in
    let den_some = is.den_some in
    ap (option_and_then rate_of) (numbers_ratio r.num r.den (omega arith) (omega arith))
    ∙ rw (ne_eqb r.num 0 (λ e. omega arith), lt-ltb 0 r.num some, lt-ltb r.num number_bound num, lt-ltb 0 r.den den_some, lt-ltb r.den number_bound den) refl

-- a ratio of nothing has the denominator 1
unknown_den : (r : Ratio) → IsRatio r → r.num ≡ 0 → r.den ≡ 1
unknown_den r is none =
    let all : IsGcd 0 r.den r.den = IsGcd-swap r.den 0 r.den (IsGcd-from_zero r.den 0 refl) in
    let one : IsGcd 0 r.den 1 = subst (λ (n : ℕ). IsGcd n r.den 1) none is.coprime in
    same_from_IsGcd 0 r.den r.den 1 all one

aspect_none : aspect_in (ratio_text 0 0) ≡ Some (0, 1)
aspect_none = ap (option_and_then aspect_of) (numbers_ratio 0 0 (omega arith) (omega arith))

pub aspect_written : (r : Ratio) → IsRatio r → aspect_in (aspect_text r) ≡ Some (r.num, r.den)
aspect_written r is = elim (cases_eq r.num 0) [
  | inl none ↦
      let text : aspect_text r ≡ ratio_text 0 0 = rw none refl in
      ap aspect_in text ∙ (aspect_none ∙ rw (none, unknown_den r is none) refl)
  | inr some ↦
      let num = is.num_fits in
      let den = is.den_fits in
      let den_some = is.den_some in
      let off : eqb r.num 0 ≡ false = ne_eqb r.num 0 some in
      let text : aspect_text r ≡ ratio_text r.num r.den = rw off refl in
      ap aspect_in text
      ∙ (ap (option_and_then aspect_of) (numbers_ratio r.num r.den (omega arith) (omega arith))
      ∙ rw (off, ne_eqb r.den 0 (λ e. omega arith), lt-ltb r.num number_bound num, lt-ltb r.den number_bound den) refl)
]

pub scan_written : (c : ℕ) → Contains scan_letters c → scan_in (c ∷ []) ≡ Some c
scan_written c has =
    let on : list_any (nat_eq c) scan_letters ≡ true = list_any_at (nat_eq c) scan_letters has.0 c has.1 (eq-eqb c _ (sym has.2)) in
    rw on refl

-- a ratio in lowest terms is that of its parts
pub reduced_self : (r : Ratio) → IsRatio r → IsReduced r.num r.den r
reduced_self r is = record { divisor = 1; greatest = is.coprime; num_is = omega arith; den_is = omega arith; lowest = is }
