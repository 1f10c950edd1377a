-- Tables of values.
use Rattle.std.proofs.Common.{ℕ, zero, suc, List, [], ◌∷◌, get_or, set}
use Rattle.std.specs.List.{AllByRecursion}
use Rattle.av_expr.specs.Fractions.{IsLowest, zero_fraction}
use Rattle.av_expr.specs.declared.fraction.Fraction.{Fraction}
use Rattle.av_expr.proofs.FractionLemmas.{over_one}

-- each of these is in lowest terms, and so is what a missing one counts as
pub lowest_each : (xs : List Fraction) → AllByRecursion IsLowest xs → (k : ℕ) → IsLowest (get_or xs k zero_fraction)
lowest_each [] all k = over_one _
lowest_each (x ∷ xs) all zero = all.0
lowest_each (x ∷ xs) all (suc k) = lowest_each xs all.1 k

pub lowest_set : (xs : List Fraction) (i k : ℕ) (v : Fraction) → IsLowest v → IsLowest (get_or xs k zero_fraction) → IsLowest (get_or (set xs i v) k zero_fraction)
lowest_set [] i k v h l = l
lowest_set (x ∷ xs) zero zero v h l = h
lowest_set (x ∷ xs) zero (suc k) v h l = l
lowest_set (x ∷ xs) (suc i) zero v h l = l
lowest_set (x ∷ xs) (suc i) (suc k) v h l = lowest_set xs i k v h l
