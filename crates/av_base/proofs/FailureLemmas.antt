-- Results: faults that a call passes on, and what it returns if each input has one value or one fault.
use Rattle.std.proofs.Common.{◌≡◌}
use Rattle.std.specs.Prelude.{Result, Ok, Err, IfOk}
use Rattle.av_base.specs.Failures.{IfFault, Gives, Refuses}
use Rattle.av_base.specs.declared.failure.Failure.{Failure}
use Rattle.av_base.specs.declared.failure.Failure.TheVariants.{Fault, NoMemory}

-- ---- a fault that is passed on

pub fault_then : (X Y : Type 0) {F : Type 0} (e : Failure F) (P Q : F → Type 0) → ((f : F) → P f → Q f) → IfFault {X = X} (Err e) P → IfFault {X = Y} (Err e) Q
fault_then X Y (Fault f) P Q h p = h f p
fault_then X Y NoMemory P Q h p = tt

pub fault_passed : {X Y F : Type 0} (r : Result X (Failure F)) (q : Result Y (Failure F)) (e y : Failure F) → r ≡ Err e → q ≡ Err y → y ≡ e → (P Q : F → Type 0) → ((f : F) → P f → Q f) → IfFault r P → IfFault q Q
fault_passed {X} {Y} r q e y was is same P Q h p = rw (is, same) (fault_then X Y e P Q h (rw was at p))

pub fault_weaker : {X F : Type 0} (r : Result X (Failure F)) (P Q : F → Type 0) → ((f : F) → P f → Q f) → IfFault r P → IfFault r Q
fault_weaker (Ok x) P Q h p = tt
fault_weaker {X} (Err e) P Q h p = fault_then X X e P Q h p

-- the fault that was returned
pub fault_found : {X F : Type 0} (q : Result X (Failure F)) (e : Failure F) (f : F) (P : F → Type 0) → q ≡ Err e → e ≡ Fault f → IfFault q P → P f
fault_found q e f P is same h = rw (is, same) at h

-- ---- one value or one fault

-- two facts on a value that is returned
pub both_ok : {X E : Type 0} (r : Result X E) {P Q R : X → Type 0} → IfOk r P → IfOk r Q → ((x : X) → P x → Q x → R x) → IfOk r R
both_ok (Ok x) p q h = h x p q
both_ok (Err e) p q h = tt

pub gives_from : {X F : Type 0} {P R : X → Type 0} {Q : F → Type 0} (r : Result X (Failure F)) → IfOk r P → IfFault r Q → ((x : X) → P x → R x) → ((f : F) → Q f → ⊥) → Gives R r
gives_from (Ok x) p q same none = same x p
gives_from (Err (Fault f)) p q same none = none f q
gives_from (Err NoMemory) p q same none = tt

pub refuses_from : {X F : Type 0} {P : X → Type 0} {Q R : F → Type 0} (r : Result X (Failure F)) → IfOk r P → IfFault r Q → ((x : X) → P x → ⊥) → ((f : F) → Q f → R f) → Refuses R r
refuses_from (Ok x) p q none same = none x p
refuses_from (Err (Fault f)) p q none same = same f q
refuses_from (Err NoMemory) p q none same = tt

-- the same of a result that is an error
pub error_gives : {X F : Type 0} (q : Result X (Failure F)) (e : Failure F) (P : X → Type 0) → q ≡ Err e → IfFault q (λ f. ⊥) → Gives P q
error_gives {X} {F} q e P is h = rw is (by e (rw is at h)) where
  by : (e : Failure F) → IfFault {X = X} (Err e) (λ f. ⊥) → Gives {X = X} P (Err e)
  by (Fault f) h = h
  by NoMemory h = tt

pub error_refuses : {X F : Type 0} (q : Result X (Failure F)) (e : Failure F) (P : F → Type 0) → q ≡ Err e → IfFault q P → Refuses P q
error_refuses {X} {F} q e P is h = rw is (by e (rw is at h)) where
  by : (e : Failure F) → IfFault {X = X} (Err e) P → Refuses {X = X} P (Err e)
  by (Fault f) h = h
  by NoMemory h = tt
