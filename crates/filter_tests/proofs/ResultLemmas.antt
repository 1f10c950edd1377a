-- What follows of a result.
use Rattle.std.proofs.Common.{Result, Ok, Err, IfOk}

pub if_ok : {A E : Type 0} {P Q : A → Type 0} → ((a : A) → P a → Q a) → (r : Result A E) → IfOk r P → IfOk r Q
if_ok f (Ok a) p = f a p
if_ok f (Err e) p = tt
