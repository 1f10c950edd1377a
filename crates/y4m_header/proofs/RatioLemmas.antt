-- Two numbers have one ratio.
use Rattle.std.proofs.Common.{◌≡◌, ℕ, zero, suc, ◌*◌, ◌/◌, ◌<◌, ◌≤◌, ◌%◌, refl, ap, sym, ◌∙◌, arith}
use Rattle.std.specs.Int.{IsGcd}
use Rattle.std.proofs.lemmas.Nat.Gcd.{IsGcd-from_zero, IsGcd-from_mod, same_from_IsGcd}
use Rattle.std.proofs.Math.Nat.{mod-lt, div-mul_cancel, mul-div_cancel, div-le_self}
use Rattle.av_base.specs.declared.numbers.Ratio.{Ratio}
use Rattle.av_base.specs.Bounds.{number_bound}
use Rattle.av_base.specs.Reduced.{IsReduced}
use Rattle.av_base.proofs.Arithmetic.{some_factor, some_divisor}
use Rattle.av_base.proofs.Ratios.{coprime_quotients}

gcd_within : (n a b : ℕ) → b ≤ n → (g : ℕ) × IsGcd a b g
gcd_within zero a b h = (a, IsGcd-from_zero a b (omega arith))
gcd_within (suc n) a zero h = (a, IsGcd-from_zero a zero refl)
gcd_within (suc n) a (suc b) h =
    let rest : a % suc b < suc b = mod-lt a (omega arith) in
    let g = gcd_within n (suc b) (a % suc b) (omega arith) in
    (g.0, IsGcd-from_mod a (suc b) g.0 g.1)

-- two numbers in their range have a ratio
pub ratio_some : (num den : ℕ) → num < number_bound → 0 < den → den < number_bound → (r : Ratio) × IsReduced num den r
ratio_some num den low some fits =
    let found = gcd_within den num den (omega arith) in
    let g = found.0 in
    let nums : num / g * g ≡ num = div-mul_cancel g found.1.0 in
    let dens : den / g * g ≡ den = div-mul_cancel g found.1.1 in
    let positive = some_divisor (den / g) g den dens some in
    let less = div-le_self num g in
    let fewer = div-le_self den g in (
      record { num = num / g; den = den / g },
      record {
        divisor = g;
        greatest = found.1;
        num_is = nums;
        den_is = dens;
        lowest = record { num_fits = omega arith; den_fits = omega arith; den_some = some_factor (den / g) g den dens some; coprime = coprime_quotients num den g positive found.1 };
      },
    )

same_parts : (x y g n : ℕ) → x * g ≡ n → y * g ≡ n → 0 < g → x ≡ y
same_parts x y g n e f some = sym (mul-div_cancel x {n = g} some) ∙ (ap (λ (m : ℕ). m / g) (e ∙ sym f) ∙ mul-div_cancel y {n = g} some)

-- and no other
pub ratio_unique : {num den : ℕ} {r s : Ratio} → IsReduced num den r → IsReduced num den s → 0 < den → r ≡ s
ratio_unique {num} {den} {r} {s} a b some =
    let same = same_from_IsGcd num den a.divisor b.divisor a.greatest b.greatest in
    let positive : 0 < a.divisor = some_divisor r.den a.divisor den a.den_is some in
    let nums : r.num ≡ s.num = same_parts r.num s.num a.divisor num a.num_is (ap (λ (g : ℕ). s.num * g) same ∙ b.num_is) positive in
    let dens : r.den ≡ s.den = same_parts r.den s.den a.divisor den a.den_is (ap (λ (g : ℕ). s.den * g) same ∙ b.den_is) positive in
    ap (λ (n : ℕ). record r { num = n }) nums ∙ ap (λ (n : ℕ). record s { den = n }) dens
