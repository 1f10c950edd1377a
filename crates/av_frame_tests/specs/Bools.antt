-- Facts about tests.
use Rattle.std.specs.Prelude.{◌≡◌, Bool, true, false, ◌||◌, ◌&&◌, ◌⊎◌, not, refl}
use Rattle.std.proofs.Common.{inl, inr}

pub and_first : (a b : Bool) → (a && b) ≡ true → a ≡ true
and_first true b e = refl
and_first false b e = e

pub and_second : (a b : Bool) → (a && b) ≡ true → b ≡ true
and_second true b e = e
and_second false b e = absurd (cc)

pub and_not : (a b : Bool) → (a && not b) ≡ true → b ≡ false
and_not true true e = cc
and_not true false e = refl
and_not false b e = absurd (cc)

pub both_true : (a b : Bool) → a ≡ true → b ≡ true → (a && b) ≡ true
both_true true b e f = f
both_true false b e f = absurd (cc)

pub or_cases : (a b : Bool) → (a || b) ≡ true → (a ≡ true) ⊎ (b ≡ true)
or_cases true b e = inl refl
or_cases false b e = inr e

pub or_true : (a : Bool) → (a || true) ≡ true
or_true true = refl
or_true false = refl
