-- Aspects of small pictures.
use Rattle.std.proofs.Common.{arith, refl}
use Rattle.std.proofs.lemmas.Nat.Gcd.{IsGcd-from_zero, IsGcd-from_mod}
use Rattle.av_base.specs.Numbers.{IsLowest}

pub lowest_4_3 : IsLowest 4 3
lowest_4_3 = record {
  num_fits = omega arith;
  den_fits = omega arith;
  den_some = omega arith;
  coprime = IsGcd-from_mod 4 3 1 (IsGcd-from_mod 3 1 1 (IsGcd-from_zero 1 0 refl));
}

pub lowest_3_4 : IsLowest 3 4
lowest_3_4 = record {
  num_fits = omega arith;
  den_fits = omega arith;
  den_some = omega arith;
  coprime = IsGcd-from_mod 3 4 1 (IsGcd-from_mod 4 3 1 (IsGcd-from_mod 3 1 1 (IsGcd-from_zero 1 0 refl)));
}
