-- Outcomes: chains of steps, in the order of the checks. A step fails with its fault, or it is passed and the next follows.
use Rattle.std.specs.Prelude.{◌≡◌, ◌≢◌, ◌⊎◌, ℤ, ℕ, pos, Result, Ok, Err, refl}
use Rattle.std.proofs.Common.{◌∙◌, sym, subst, ap, inl, inr}

-- ---- one outcome, always

-- it holds of one thing at most
abbrev pub IsOne : {X : Type 0} → (X → Type 0) → Type 0
IsOne {X} P = (a b : X) → P a → P b → a ≡ b

-- it holds of exactly one thing
pub record HasOne {X : Type 0} (P : X → Type 0) : Type 0 where
  pub some : (x : X) × P x
  pub one : IsOne P

-- ---- steps

-- a step that fails with a fault, or has a value that the next takes
abbrev pub AfterValue : {X R : Type 0} → Type 0 → R → (X → Type 0) → (X → R → Type 0) → R → Type 0
AfterValue {X} {R} fails fault has next r = (fails × (r ≡ fault)) ⊎ ((x : X) × has x × next x r)

-- a check that fails with a fault, or holds
abbrev pub AfterCheck : {R : Type 0} → Type 0 → R → (R → Type 0) → R → Type 0
AfterCheck holds fault next r = ((¬ holds) × (r ≡ fault)) ⊎ (holds × next r)

-- a check that has one of several faults, or holds
abbrev pub AfterFault : {E R : Type 0} → (E → Type 0) → (E → R) → Type 0 → (R → Type 0) → R → Type 0
AfterFault {E} {R} fault refused holds next r = ((e : E) × fault e × (r ≡ refused e)) ⊎ (holds × next r)

-- a step that has one of several faults, or a value that the next takes
abbrev pub AfterStep : {E X R : Type 0} → (E → Type 0) → (E → R) → (X → Type 0) → (X → R → Type 0) → R → Type 0
AfterStep {E} {X} {R} fault refused has next r = ((e : E) × fault e × (r ≡ refused e)) ⊎ ((x : X) × has x × next x r)

-- two whole numbers of which none is below 0
abbrev pub AfterSizes : {R : Type 0} → ℤ → ℤ → (ℕ → ℕ → R → Type 0) → R → Type 0
AfterSizes w h next r = (m n : ℕ) × (w ≡ pos m) × (h ≡ pos n) × next m n r

-- ---- a step of an outcome without a fault is passed

pub same_ok : {T E : Type 0} {a b : T} → ◌≡◌ {A = Result T E} (Ok a) (Ok b) → a ≡ b
same_ok e = cc

pub passed : {T E A B : Type 0} {t : T} {e : E} → (A × ◌≡◌ {A = Result T E} (Ok t) (Err e)) ⊎ B → B
passed (inl bad) = absurd (let no = bad.1 in cc)
passed (inr rest) = rest

pub passed_fault : {T E A B : Type 0} {P : A → Type 0} {f : A → E} {t : T} → ((e : A) × P e × ◌≡◌ {A = Result T E} (Ok t) (Err (f e))) ⊎ B → B
passed_fault (inl bad) = absurd (let no = bad.2 in cc)
passed_fault (inr rest) = rest

-- ---- a step whose faults are others than that of an outcome is passed

pub passed_other : {T E A B : Type 0} {e f : E} → e ≢ f → (A × ◌≡◌ {A = Result T E} (Err e) (Err f)) ⊎ B → B
passed_other apart (inl bad) = absurd (apart (let same = bad.1 in cc))
passed_other apart (inr rest) = rest

pub passed_others : {T E A B : Type 0} {P : A → Type 0} {f : A → E} {e : E} → ((a : A) → P a → e ≢ f a) → ((a : A) × P a × ◌≡◌ {A = Result T E} (Err e) (Err (f a))) ⊎ B → B
passed_others apart (inl bad) = absurd (apart bad.0 bad.1 (let same = bad.2 in cc))
passed_others apart (inr rest) = rest

-- ---- each step has one outcome if the next has

either_one : {R : Type 0} (bad good : R → Type 0) → IsOne bad → IsOne good → ((a b : R) → good a → ¬ bad b) → IsOne (λ r. bad r ⊎ good r)
either_one bad good one also apart a b (inl p) (inl q) = one a b p q
either_one bad good one also apart a b (inl p) (inr q) = absurd (apart b a q p)
either_one bad good one also apart a b (inr p) (inl q) = absurd (apart a b p q)
either_one bad good one also apart a b (inr p) (inr q) = also a b p q

pub ends_one : {R : Type 0} (end : R) → HasOne (λ r. r ≡ end)
ends_one end = record { some = (end, refl); one = λ a b p q. p ∙ sym q }

pub after_value : {X R : Type 0} (fails : Type 0) (fault : R) (has : X → Type 0) (next : X → R → Type 0)
    → fails ⊎ ((x : X) × has x) → IsOne has → ((x : X) → has x → ¬ fails) → ((x : X) → has x → HasOne (next x)) → HasOne (AfterValue fails fault has next)
after_value {X} {R} fails fault has next known one apart rest = record {
  some = some known;
  one = either_one (λ r. fails × (r ≡ fault)) (λ r. (x : X) × has x × next x r)
      (λ a b p q. p.1 ∙ sym q.1)
      (λ a b p q. (rest q.0 q.1).one a b (subst (λ (x : X). next x a) (one p.0 q.0 p.1 q.1) p.2) q.2)
      (λ a b p q. apart p.0 p.1 q.0);
}
  where
    some : fails ⊎ ((x : X) × has x) → (r : R) × AfterValue fails fault has next r
    some (inl f) = (fault, inl (f, refl))
    some (inr h) = let end = (rest h.0 h.1).some in (end.0, inr (h.0, h.1, end.1))

pub after_check : {R : Type 0} (holds : Type 0) (fault : R) (next : R → Type 0) → holds ⊎ (¬ holds) → (holds → HasOne next) → HasOne (AfterCheck holds fault next)
after_check {R} holds fault next known rest = record {
  some = some known;
  one = either_one (λ r. (¬ holds) × (r ≡ fault)) (λ r. holds × next r) (λ a b p q. p.1 ∙ sym q.1) (λ a b p q. (rest p.0).one a b p.1 q.1) (λ a b p q. q.0 p.0);
}
  where
    some : holds ⊎ (¬ holds) → (r : R) × AfterCheck holds fault next r
    some (inl h) = let end = (rest h).some in (end.0, inr (h, end.1))
    some (inr n) = (fault, inl (n, refl))

pub after_fault : {E R : Type 0} (fault : E → Type 0) (refused : E → R) (holds : Type 0) (next : R → Type 0)
    → ((e : E) × fault e) ⊎ holds → IsOne fault → (holds → (e : E) → ¬ fault e) → (holds → HasOne next) → HasOne (AfterFault fault refused holds next)
after_fault {E} {R} fault refused holds next known one apart rest = record {
  some = some known;
  one = either_one (λ r. (e : E) × fault e × (r ≡ refused e)) (λ r. holds × next r)
      (λ a b p q. p.2 ∙ ap refused (one p.0 q.0 p.1 q.1) ∙ sym q.2)
      (λ a b p q. (rest p.0).one a b p.1 q.1)
      (λ a b p q. apart p.0 q.0 q.1);
}
  where
    some : ((e : E) × fault e) ⊎ holds → (r : R) × AfterFault fault refused holds next r
    some (inl f) = (refused f.0, inl (f.0, f.1, refl))
    some (inr h) = let end = (rest h).some in (end.0, inr (h, end.1))

-- what follows has the same outcomes for all values of a step
abbrev pub AreAlike : {X R : Type 0} → (X → Type 0) → (X → R → Type 0) → Type 0
AreAlike {X} {R} has next = (x y : X) (r : R) → has x → has y → next x r → next y r

pub after_step : {E X R : Type 0} (fault : E → Type 0) (refused : E → R) (has : X → Type 0) (next : X → R → Type 0)
    → ((x : X) × has x) ⊎ ((e : E) × fault e) → IsOne fault → ((x : X) (e : E) → has x → ¬ fault e) → AreAlike has next → ((x : X) → has x → HasOne (next x))
    → HasOne (AfterStep fault refused has next)
after_step {E} {X} {R} fault refused has next known one apart alike rest = record {
  some = some known;
  one = either_one (λ r. (e : E) × fault e × (r ≡ refused e)) (λ r. (x : X) × has x × next x r)
      (λ a b p q. p.2 ∙ ap refused (one p.0 q.0 p.1 q.1) ∙ sym q.2)
      (λ a b p q. (rest q.0 q.1).one a b (alike p.0 q.0 a p.1 q.1 p.2) q.2)
      (λ a b p q. apart p.0 q.0 p.1 q.1);
}
  where
    some : ((x : X) × has x) ⊎ ((e : E) × fault e) → (r : R) × AfterStep fault refused has next r
    some (inl h) = let end = (rest h.0 h.1).some in (end.0, inr (h.0, h.1, end.1))
    some (inr f) = (refused f.0, inl (f.0, f.1, refl))

-- a step with one value at most
pub alike_one : {X R : Type 0} (has : X → Type 0) (next : X → R → Type 0) → IsOne has → AreAlike has next
alike_one has next one x y r p q h = subst (λ z. next z r) (one x y p q) h

pub after_sizes : {R : Type 0} (w h : ℤ) (next : ℕ → ℕ → R → Type 0) (m n : ℕ) → w ≡ pos m → h ≡ pos n → HasOne (next m n) → HasOne (AfterSizes w h next)
after_sizes {R} w h next m n wide high rest = record {
  some = (rest.some.0, (m, n, wide, high, rest.some.1));
  one = λ a b p q. rest.one a b (at p) (at q);
}
  where
    at : {r : R} → AfterSizes w h next r → next m n r
    at {r} p =
        let first : p.0 ≡ m = cc in
        let second : p.1 ≡ n = cc in
        subst (λ k. next k n r) first (subst (λ k. next p.0 k r) second p.4)
