use Rattle.std.specs.Prelude.{ℕ, zero, suc, replicate}
use Rattle.std.specs.List.{AllByRecursion}
use Rattle.av_expr.specs.Vars.{order}
use Rattle.av_expr.specs.Fractions.{IsLowest, zero_fraction}
use Rattle.av_expr.proofs.FractionLemmas.{over_one}
use Rattle.av_expr.proofs.ValueLemmas.{lowest_each}
use Rattle.av_expr.proofs.values.Values.zero.Goals as goal

all_zero : (n : ℕ) → AllByRecursion IsLowest (replicate n zero_fraction)
all_zero zero = tt
all_zero (suc n) = (over_one _, all_zero n)

pub invariant_of-result : goal.invariant_of-result
invariant_of-result c = λ x. lowest_each (replicate 18 zero_fraction) (all_zero 18) (order x)
