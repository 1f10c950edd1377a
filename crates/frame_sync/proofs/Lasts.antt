-- The last time of an input.
use Rattle.std.proofs.Common.{◌≡◌, ◌<◌, ◌-◌, ◌<ℤ◌, ◌≤ℤ◌, ◌∙◌, ℕ, ℤ, List, Option, Some, None, length, get_or, refl, sym, ap, arith, inl, inr}
use Rattle.std.specs.Prelude.{IfSome}
use Rattle.std.specs.List.{slice_get}
use Rattle.std.proofs.lemmas.Bool.{cases_lt}
use Rattle.std.proofs.lemmas.Int.{ints}
use Rattle.std.proofs.lemmas.Option.{same_Some, slice_get_within, slice_get_read}
use Rattle.frame_sync.specs.declared.stamp.Stamp.{Stamp}
use Rattle.frame_sync.specs.Framesync.{EachOne}
use Rattle.frame_sync.specs.Lanes.{LaneValue, IsSound, IsPast}

-- no time of an input is past this one
abbrev pub IsBound : LaneValue → ℤ → Type 0
IsBound l t = EachOne l.waiting (λ u. u ≤ℤ t) × IfSome l.latest (λ (s : Stamp). s.pts ≤ℤ t)

latest_bound : (latest : Option Stamp) (waiting : List ℤ) (k : ℕ) (t : ℤ) → slice_get waiting k ≡ Some t → IfSome latest (λ (s : Stamp). EachOne waiting (λ u. s.pts <ℤ u)) → IfSome latest (λ (s : Stamp). s.pts ≤ℤ t)
latest_bound None waiting k t e past = tt
latest_bound (Some s) waiting k t e past = let a : s.pts <ℤ t = past k t e in omega (arith, ints)

pub back_bound : (l : LaneValue) (t : ℤ) → IsSound l → 0 < length l.waiting → t ≡ get_or l.waiting (length l.waiting - 1) t → IsBound l t
back_bound l t s some is = (
  λ k u e. elim (cases_lt k (length l.waiting - 1)) [
    | inl lt ↦ (let a : u <ℤ t = s.rising k (length l.waiting - 1) u t lt e last in omega (arith, ints))
    | inr le ↦ (
        let within = slice_get_within l.waiting k u e in
        let same : k ≡ length l.waiting - 1 = omega arith in
        let a : u ≡ t = same_Some u t (sym e ∙ (ap (slice_get l.waiting) same ∙ last)) in
        omega (arith, ints)
        )
  ],
  latest_bound l.latest l.waiting (length l.waiting - 1) t last s.past,
) where
  last : slice_get l.waiting (length l.waiting - 1) ≡ Some t
  last = slice_get_read l.waiting (length l.waiting) (length l.waiting - 1) t refl (omega arith) is

latest_past : (latest : Option Stamp) (t u : ℤ) → IfSome latest (λ (s : Stamp). s.pts ≤ℤ t) → t <ℤ u → IfSome latest (λ (s : Stamp). s.pts <ℤ u)
latest_past None t u le lt = tt
latest_past (Some s) t u le lt = let a : s.pts ≤ℤ t = le in omega (arith, ints)

pub past_bound : (l : LaneValue) (t u : ℤ) → IsBound l t → t <ℤ u → IsPast l u
past_bound l t u b lt = ((λ k v e. let a : v ≤ℤ t = b.0 k v e in omega (arith, ints)), latest_past l.latest t u b.1 lt)
