-- What is so of some or each of two lists that are related one by one.
use Rattle.std.proofs.Common.{◌≡◌, ◌<ℤ◌, ◌≤ℤ◌, ◌⊎◌, ℕ, ℤ, List, Some, arith, inl, inr}
use Rattle.std.specs.List.{slice_get}
use Rattle.std.proofs.lemmas.Int.{by_lt_z}
use Rattle.std.proofs.lemmas.Option.{slice_get_within}
use Rattle.av_base.proofs.Lists.{get_within}
use Rattle.frame_sync.specs.Framesync.{SomeOne, EachOne}
use Rattle.frame_sync.specs.Lanes.{AreEach}

-- the one at the same place
pub partner : {X Y : Type 0} {R : X → Y → Type 0} {xs : List X} {ys : List Y} → AreEach R xs ys → (k : ℕ) (x : X) → slice_get xs k ≡ Some x → (y : Y) × (slice_get ys k ≡ Some y) × R x y
partner {X} {Y} {R} {xs} {ys} h k x e =
    let at = get_within ys k (let lt = slice_get_within xs k x e in let same = h.same in omega arith) in
    (at.0, at.1, h.each k x at.0 e at.1)

pub partner_back : {X Y : Type 0} {R : X → Y → Type 0} {xs : List X} {ys : List Y} → AreEach R xs ys → (k : ℕ) (y : Y) → slice_get ys k ≡ Some y → (x : X) × (slice_get xs k ≡ Some x) × R x y
partner_back {X} {Y} {R} {xs} {ys} h k y f =
    let at = get_within xs k (let lt = slice_get_within ys k y f in let same = h.same in omega arith) in
    (at.0, at.1, h.each k at.0 y at.1 f)

pub some_along : {X Y : Type 0} {R : X → Y → Type 0} {xs : List X} {ys : List Y} (P : X → Type 0) (Q : Y → Type 0) → AreEach R xs ys → ((x : X) (y : Y) → R x y → P x → Q y) → SomeOne xs P → SomeOne ys Q
some_along P Q h f s = let y = partner h s.0 s.1 s.2 in (s.0, y.0, y.1, f s.1 y.0 y.2 s.3)

pub some_back : {X Y : Type 0} {R : X → Y → Type 0} {xs : List X} {ys : List Y} (P : X → Type 0) (Q : Y → Type 0) → AreEach R xs ys → ((x : X) (y : Y) → R x y → Q y → P x) → SomeOne ys Q → SomeOne xs P
some_back P Q h f s = let x = partner_back h s.0 s.1 s.2 in (s.0, x.0, x.1, f x.0 s.1 x.2 s.3)

pub each_along : {X Y : Type 0} {R : X → Y → Type 0} {xs : List X} {ys : List Y} (P : X → Type 0) (Q : Y → Type 0) → AreEach R xs ys → ((x : X) (y : Y) → R x y → P x → Q y) → EachOne xs P → EachOne ys Q
each_along P Q h f s k y e = let x = partner_back h k y e in f x.0 y x.2 (s k x.0 x.1)

pub each_back : {X Y : Type 0} {R : X → Y → Type 0} {xs : List X} {ys : List Y} (P : X → Type 0) (Q : Y → Type 0) → AreEach R xs ys → ((x : X) (y : Y) → R x y → Q y → P x) → EachOne ys Q → EachOne xs P
each_back P Q h f s k x e = let y = partner h k x e in f x y.0 y.2 (s k y.0 y.1)

-- the relation that follows, place by place
pub each_so : {X Y : Type 0} {R S : X → Y → Type 0} {xs : List X} {ys : List Y} → AreEach R xs ys → ((k : ℕ) (x : X) (y : Y) → slice_get xs k ≡ Some x → slice_get ys k ≡ Some y → R x y → S x y) → AreEach S xs ys
each_so h f = record { same = h.same; each = λ k x y e g. f k x y e g (h.each k x y e g) }

-- ---- two times

pub cases_ltz : (a b : ℤ) → (a <ℤ b) ⊎ (b ≤ℤ a)
cases_ltz a b = by_lt_z {P = (a <ℤ b) ⊎ (b ≤ℤ a)} a b (λ h. inl h) (λ h. inr h)
