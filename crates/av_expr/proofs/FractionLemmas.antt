-- Fractions in lowest terms.
use Rattle.std.proofs.Common.{◌≡◌, ◌≢◌, ◌<◌, ◌≤◌, ◌+◌, ◌*◌, ◌/◌, ◌^◌, ℕ, zero, suc, ℤ, pos, negsuc, neg_ℤ, ◌*ℤ◌, ◌<ℤ◌, Bool, true, false, refl, sym, ◌∙◌, ap, subst, arith}
use Rattle.std.specs.Prelude.{unsigned_abs, int_lt, int_div}
use mathlib.Core.Bool.{not, beq}
use Rattle.std.proofs.lemmas.Bool.{le-ltb}
use Rattle.std.specs.Int.{IsGcd, w128}
use Rattle.std.proofs.Math.IntN.{*ℤ-zero, zero-*ℤ}
use Rattle.std.proofs.Math.Nat.{div-mul_cancel, eq_of_mul-eq-mul_right, div-add-mod', mod-lt, zero-div, mul-le-mul_left, one-dvd}
use borrow.Author.Differences.{up, down, same_in}
use Rattle.std.proofs.lemmas.Int.{ints, unsigned_abs-mul, fits_signed_from_abs}
use Rattle.std.proofs.lemmas.Nat.Gcd.{same_from_IsGcd, dvd_refl}
use Rattle.av_base.specs.Numbers.{signed_of}
use Rattle.av_expr.specs.Fractions.{Fits, AreFitting, IsLowest, IsReduced, IsCut, IsNegated, DividesByZero, below}
use Rattle.av_expr.specs.declared.fraction.Operator.{Operator}
use Rattle.av_expr.specs.declared.fraction.Operator.TheVariants.{Plus, Minus, Times, Over}
use Rattle.av_expr.specs.declared.fraction.Fraction.{Fraction}
use Rattle.av_base.proofs.Arithmetic.{abs_neg, negative_times, some_factor}
use Rattle.av_base.proofs.Ratios.{coprime_rest}

-- ---- numbers by sign and size

pub abs_signed : (s : Bool) (n : ℕ) → unsigned_abs (signed_of s n) ≡ n
abs_signed true zero = refl
abs_signed true (suc n) = refl
abs_signed false n = refl

-- a test of a sign that is one of `<`
pub signed_abs : (z : ℤ) → z ≡ signed_of (int_lt z (pos 0)) (unsigned_abs z)
signed_abs (pos n) = subst (λ (s : Bool). pos n ≡ signed_of s n) (sym (le-ltb n 0 (omega arith))) refl
signed_abs (negsuc n) = refl

both_negative : (a b : ℕ) → neg_ℤ (pos a) *ℤ neg_ℤ (pos b) ≡ pos (a * b)
both_negative zero b = omega (arith, ints)
both_negative (suc a) zero = omega (arith, ints)
both_negative (suc a) (suc b) = omega (arith, ints)

second_negative : (a b : ℕ) → pos a *ℤ neg_ℤ (pos b) ≡ neg_ℤ (pos (a * b))
second_negative a zero = omega (arith, ints)
second_negative a (suc b) = omega (arith, ints)

pub signed_mul : (s t : Bool) (a b : ℕ) → signed_of (not (beq s t)) a *ℤ signed_of t b ≡ signed_of s (a * b)
signed_mul true true a b = second_negative a b
signed_mul true false a b = negative_times a b
signed_mul false true a b = both_negative a b
signed_mul false false a b = omega (arith, ints)

-- a part of a fraction, times the divisor with the sign of the denominator
part_mul : (z : ℤ) (t : Bool) (q g : ℕ) → q * g ≡ unsigned_abs z → signed_of (not (beq (int_lt z (pos 0)) t)) q *ℤ signed_of t g ≡ z
part_mul z t q g e = signed_mul (int_lt z (pos 0)) t q g ∙ ap (signed_of (int_lt z (pos 0))) e ∙ sym (signed_abs z)

same_signs : (t : Bool) (q g : ℕ) → pos q *ℤ signed_of t g ≡ signed_of t (q * g)
same_signs true q g = second_negative q g
same_signs false q g = omega (arith, ints)

-- what the code makes of two numbers and of their greatest common divisor
abbrev pub divided : ℤ → ℤ → ℕ → Fraction
divided num den g = record {
  num = signed_of (not (beq (int_lt num (pos 0)) (int_lt den (pos 0)))) (unsigned_abs num / g);
  den = pos (unsigned_abs den / g);
}

pub some_size : (z : ℤ) → z ≢ pos 0 → 0 < unsigned_abs z
some_size (pos zero) h = absurd (h refl)
some_size (pos (suc n)) h = omega arith
some_size (negsuc n) h = omega arith

pub divided_is : (num den : ℤ) (g : ℕ) → den ≢ pos 0 → IsGcd (unsigned_abs num) (unsigned_abs den) g → IsReduced num den (divided num den g)
divided_is num den g some h =
    let t = int_lt den (pos 0) in
    let above = div-mul_cancel g h.0 in
    let below = div-mul_cancel g h.1 in
    record {
      divisor = signed_of t g;
      greatest = subst (λ (n : ℕ). IsGcd (unsigned_abs num) (unsigned_abs den) n) (sym (abs_signed t g)) h;
      num_is = part_mul num t (unsigned_abs num / g) g above;
      den_is = same_signs t (unsigned_abs den / g) g ∙ ap (signed_of t) below ∙ sym (signed_abs den);
      positive = (let more = some_factor (unsigned_abs den / g) g (unsigned_abs den) below (some_size den some) in omega (arith, ints));
      defined = some;
    }

-- ---- there is one fraction in lowest terms

pub positive_is : (a : ℤ) → pos 0 <ℤ a → (n : ℕ) × (a ≡ pos (suc n))
positive_is (pos zero) p = absurd (omega (arith, ints))
positive_is (pos (suc n)) p = (n, refl)
positive_is (negsuc n) p = absurd (omega (arith, ints))

-- the multiples have different signs
apart : (m n k l : ℕ) → pos (suc m) *ℤ pos k ≡ pos (suc n) *ℤ negsuc l → ⊥
apart m n k l e = omega (arith, ints)

-- two multiples of positive numbers by divisors of one size have one sign
same_divisor : (k l : ℤ) (a b : ℤ) → unsigned_abs k ≡ unsigned_abs l → pos 0 <ℤ a → pos 0 <ℤ b → a *ℤ k ≡ b *ℤ l → k ≡ l
same_divisor (pos k) (pos l) a b size p q e = ap pos size
same_divisor (negsuc k) (negsuc l) a b size p q e = omega (arith, ints)
same_divisor (pos k) (negsuc l) a b size p q e = let m = positive_is a p in let n = positive_is b q in absurd (apart m.0 n.0 k l (rw (m.1, n.1) at e))
same_divisor (negsuc k) (pos l) a b size p q e = let m = positive_is a p in let n = positive_is b q in absurd (apart n.0 m.0 l k (sym (rw (m.1, n.1) at e)))

-- a common factor that isn't 0
pub cancel : (k a b : ℤ) → k ≢ pos 0 → a *ℤ k ≡ b *ℤ k → a ≡ b
cancel (pos zero) a b some e = absurd (some refl)
cancel (pos (suc n)) a b some e =
    let above : up a * suc n ≡ up b * suc n = omega (arith, ints) in
    let below : down a * suc n ≡ down b * suc n = omega (arith, ints) in
    same_in a b (let u = eq_of_mul-eq-mul_right (suc n) (omega arith) (up a) (up b) above in let v = eq_of_mul-eq-mul_right (suc n) (omega arith) (down a) (down b) below in omega arith)
cancel (negsuc n) a b some e =
    let above : up a * suc n ≡ up b * suc n = omega (arith, ints) in
    let below : down a * suc n ≡ down b * suc n = omega (arith, ints) in
    same_in a b (let u = eq_of_mul-eq-mul_right (suc n) (omega arith) (up a) (up b) above in let v = eq_of_mul-eq-mul_right (suc n) (omega arith) (down a) (down b) below in omega arith)

pub some_divisor : (a k z : ℤ) → a *ℤ k ≡ z → z ≢ pos 0 → k ≢ pos 0
some_divisor a k z e some h = some (sym e ∙ ap (λ (n : ℤ). a *ℤ n) h ∙ *ℤ-zero a)

pub same_fraction : (a b : Fraction) → a.num ≡ b.num → a.den ≡ b.den → a ≡ b
same_fraction a b num den =
    let make : ℤ → ℤ → Fraction = λ n d. record { num = n; den = d } in
    ap (λ (n : ℤ). make n a.den) num ∙ ap (make b.num) den

pub one_fraction : (num den : ℤ) (a b : Fraction) → IsReduced num den a → IsReduced num den b → a ≡ b
one_fraction num den a b p q =
    let size = same_from_IsGcd (unsigned_abs num) (unsigned_abs den) (unsigned_abs p.divisor) (unsigned_abs q.divisor) p.greatest q.greatest in
    let k = same_divisor p.divisor q.divisor a.den b.den size p.positive q.positive (p.den_is ∙ sym q.den_is) in
    let some = some_divisor a.den p.divisor den p.den_is p.defined in
    same_fraction a b
    (cancel p.divisor a.num b.num some (p.num_is ∙ sym q.num_is ∙ ap (λ (n : ℤ). b.num *ℤ n) (sym k)))
    (cancel p.divisor a.den b.den some (p.den_is ∙ sym q.den_is ∙ ap (λ (n : ℤ). b.den *ℤ n) (sym k)))

-- ---- what the code finds

-- two numbers as they were read, their sizes, and the greatest common divisor of these
pub record Sizes (num den x y : ℤ) (a b g : ℕ) : Type 0 where
  pub x_is : x ≡ num
  pub y_is : y ≡ den
  pub a_is : a ≡ unsigned_abs x
  pub b_is : b ≡ unsigned_abs y
  pub greatest : IsGcd a b g
  pub some : den ≢ pos 0

pub sized : {num den x y : ℤ} {a b g : ℕ} → Sizes num den x y a b g → IsReduced num den (divided num den g)
sized {num} {den} {x} {y} {a} {b} {g} s = divided_is num den g s.some (rw (s.a_is, s.b_is, s.x_is, s.y_is) at s.greatest)

-- the parts as the code makes them
pub sized_is : {num den x y : ℤ} {a b g : ℕ} → Sizes num den x y a b g → (p q : ℤ) → p ≡ signed_of (not (beq (int_lt x (pos 0)) (int_lt y (pos 0)))) (a / g) → q ≡ pos (b / g)
    → IsReduced num den (record { num = p; den = q })
sized_is {num} {den} {x} {y} {a} {b} {g} s p q e f =
    let same : divided num den g ≡ record { num = p; den = q } = same_fraction (divided num den g) (record { num = p; den = q }) (sym (rw (s.a_is, s.x_is, s.y_is) at e)) (sym (rw (s.b_is, s.y_is) at f)) in
    subst (IsReduced num den) same (sized s)

pub sized_num : {num den x y : ℤ} {a b g : ℕ} → Sizes num den x y a b g → ¬ Fits (signed_of (not (beq (int_lt x (pos 0)) (int_lt y (pos 0)))) (a / g)) → (f : Fraction) × IsReduced num den f × ¬ AreFitting f
sized_num {num} {den} {x} {y} {a} {b} {g} s none =
    let no : ¬ Fits (divided num den g).num = rw (s.a_is, s.x_is, s.y_is) at none in
    (divided num den g, sized s, (λ fits. no fits.0))

pub sized_den : {num den x y : ℤ} {a b g : ℕ} → Sizes num den x y a b g → ¬ Fits (pos (b / g)) → (f : Fraction) × IsReduced num den f × ¬ AreFitting f
sized_den {num} {den} {x} {y} {a} {b} {g} s none =
    let no : ¬ Fits (divided num den g).den = rw (s.b_is, s.y_is) at none in
    (divided num den g, sized s, (λ fits. no fits.1))

-- ---- rounding

quotient : (a k : ℕ) → 0 < k → (a / k * k ≤ a) × (a < (a / k + 1) * k)
quotient a k some = let split = div-add-mod' a k in let small = mod-lt a some in omega arith

cut_by : (z : ℤ) (k : ℕ) → 0 < k → IsCut (record { num = z; den = pos k }) (int_div z (pos k))
cut_by (pos a) k some = let q = quotient a k some in record { within = q.0; next = q.1; up = λ p. omega (arith, ints); down = λ p. let h : a ≤ 0 = omega (arith, ints) in omega (arith, ints, zero_div a k h) } where
  zero_div : (a k : ℕ) → a ≤ 0 → a / k ≡ 0
  zero_div zero k h = zero-div k
  zero_div (suc a) k h = absurd (omega arith)
cut_by (negsuc a) k some =
    let q = quotient (suc a) k some in
    let e = abs_neg (pos (suc a / k)) in
    record { within = rw e q.0; next = rw e q.1; up = λ p. absurd (omega (arith, ints)); down = λ p. omega (arith, ints) }

pub cut_is : (f : Fraction) → pos 0 <ℤ f.den → IsCut f (int_div f.num f.den)
cut_is f p =
    let n = positive_is f.den p in
    let whole : IsCut (record { num = f.num; den = f.den }) (int_div f.num f.den) = rw n.1 (cut_by f.num (suc n.0) (omega arith)) in whole

-- ---- operators

pub product_some : (a b : ℤ) → a ≢ pos 0 → b ≢ pos 0 → a *ℤ b ≢ pos 0
product_some a b p q e = p (cancel b a (pos 0) q (e ∙ sym (zero-*ℤ b)))

pub positive_some : (a : ℤ) → pos 0 <ℤ a → a ≢ pos 0
positive_some a p e = omega (arith, ints)

pub below_some : (op : Operator) (a b : Fraction) → pos 0 <ℤ a.den → pos 0 <ℤ b.den → ¬ DividesByZero op b → below op a b ≢ pos 0
below_some Plus a b p q d = product_some a.den b.den (positive_some a.den p) (positive_some b.den q)
below_some Minus a b p q d = product_some a.den b.den (positive_some a.den p) (positive_some b.den q)
below_some Times a b p q d = product_some a.den b.den (positive_some a.den p) (positive_some b.den q)
below_some Over a b p q d = product_some a.den b.num (positive_some a.den p) (λ e. d (refl, e))

-- ---- what is in lowest terms

pub over_one : (z : ℤ) → IsLowest (record { num = z; den = pos 1 })
over_one z = record { positive = omega (arith, ints); coprime = (one-dvd (unsigned_abs z), dvd_refl 1, λ d a b. b) }

pub reduced_lowest : {num den : ℤ} {f : Fraction} → IsReduced num den f → IsLowest f
reduced_lowest {num} {den} {f} h = record {
  positive = h.positive;
  coprime = coprime_rest (unsigned_abs f.num) (unsigned_abs f.den) (unsigned_abs h.divisor) (some_size h.divisor (some_divisor f.den h.divisor den h.den_is h.defined))
      (rw (sym (ap unsigned_abs h.num_is) ∙ unsigned_abs-mul f.num h.divisor, sym (ap unsigned_abs h.den_is) ∙ unsigned_abs-mul f.den h.divisor) at h.greatest);
}

pub negated_lowest : {a f : Fraction} → IsNegated a f → IsLowest a → IsLowest f
negated_lowest {a} {f} h l = record {
  positive = rw h.den_is l.positive;
  coprime = rw (h.num_is, h.den_is, abs_neg a.num) l.coprime;
}

-- ---- small parts

part_below : (z k : ℤ) (n : ℕ) → 0 < unsigned_abs k → z *ℤ k ≡ pos n → unsigned_abs z ≤ n
part_below z k n some e =
    let size = sym (unsigned_abs-mul z k) ∙ ap unsigned_abs e in
    let more : unsigned_abs z * 1 ≤ unsigned_abs z * unsigned_abs k = mul-le-mul_left (unsigned_abs z) some in
    omega arith

pub small_fits : {n d : ℕ} {f : Fraction} → IsReduced (pos n) (pos d) f → n < 2 ^ 127 → d < 2 ^ 127 → AreFitting f
small_fits {n} {d} {f} h p q =
    let some = some_size h.divisor (some_divisor f.den h.divisor (pos d) h.den_is h.defined) in
    let num = part_below f.num h.divisor n some h.num_is in
    let den = part_below f.den h.divisor d some h.den_is in
    (fits_signed_from_abs w128 f.num (omega arith), fits_signed_from_abs w128 f.den (omega arith))
