use Rattle.std.proofs.Common.{refl, arith}
use Rattle.std.specs.Int.{IsGcd}
use Rattle.std.proofs.lemmas.Nat.Gcd.{IsGcd-from_mod, IsGcd-from_zero, IsGcd-swap}
use Rattle.y4m_header.proofs.written.tests.a_written_line_is_read_back.Goals as goal

pub write_header-requires : goal.write_header-requires
write_header-requires g c =
    let one : IsGcd 1 0 1 = IsGcd-from_zero 1 0 refl in
    let same : IsGcd 1 1 1 = IsGcd-from_mod 1 1 1 one in
    let pal : IsGcd 25 1 1 = IsGcd-from_mod 25 1 1 one in
    record {
      lawful = record {
        width = omega arith;
        height = omega arith;
        aspect = record { num_fits = omega arith; den_fits = omega arith; den_some = omega arith; coprime = same };
        rate = record { num_fits = omega arith; den_fits = omega arith; den_some = omega arith; coprime = pal };
        base = (record { num_fits = omega arith; den_fits = omega arith; den_some = omega arith; coprime = IsGcd-swap 25 1 1 pal }, omega arith);
        scan = (1, omega arith, refl);
      };
      video = tt;
      limits = record { width = omega arith; height = omega arith; bytes = omega arith };
      header = (omega arith, omega arith);
    }
