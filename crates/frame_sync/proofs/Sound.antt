-- What is kept of an input stays sound.
use Rattle.std.proofs.Common.{◌≡◌, ◌<◌, ◌<ℤ◌, ◌≤ℤ◌, ◌+ℤ◌, ◌++◌, ◌∙◌, ◌^◌, suc, ℤ, pos, not, false, List, [], ◌∷◌, Option, Some, None, drop, sym, subst, ap, arith, inl, inr, int_eq, w64}
use mir.Val.{SFits}
use Rattle.std.specs.Option.{option_eq, IfSome}
use Rattle.std.specs.List.{slice_get}
use Rattle.std.proofs.lemmas.Int.{ints}
use Rattle.std.proofs.lemmas.Option.{same_Some}
use Rattle.frame_sync.specs.declared.stamp.Stamp.{Stamp}
use Rattle.frame_sync.specs.Framesync.{EachOne, IsRising}
use Rattle.av_base.proofs.Lists.{pushed_at}
use Rattle.frame_sync.proofs.Pushes.{rising_more}
use Rattle.frame_sync.specs.Lanes.{LaneValue, IsSound, IsPast, next_number}

-- the first time is passed
pub first_passed : (items more : List ℤ) (head : Option ℤ) (t : ℤ) → head ≡ slice_get items 0 → not (option_eq int_eq head (Some t)) ≡ false → more ≡ drop 1 items → items ≡ t ∷ more
first_passed [] more None t e same rest = absurd (cc)
first_passed [] more (Some u) t e same rest = absurd (cc)
first_passed (x ∷ xs) more None t e same rest = absurd (cc)
first_passed (x ∷ xs) more (Some u) t e same rest = let a : u ≡ x = same_Some u x e in let b : u ≡ t = grind (arith, ints) in let c : more ≡ xs = rest in cc

fewer : (latest : Option Stamp) (items : List ℤ) (t : ℤ) → SFits w64 t → slice_get items 0 ≡ Some t → IfSome latest (λ (s : Stamp). EachOne items (λ u. s.pts <ℤ u))
    → IfSome latest (λ (s : Stamp). pos s.number ≤ℤ (s.pts +ℤ pos (2 ^ 63))) → pos (next_number latest) ≤ℤ (t +ℤ pos (2 ^ 63))
fewer None items t fits first past few = omega (arith, ints)
fewer (Some s) items t fits first past few = let a : s.pts <ℤ t = past 0 t first in omega (arith, ints)

-- the next number fits
pub next_fits : (latest : Option Stamp) (items : List ℤ) (t : ℤ) → SFits w64 t → slice_get items 0 ≡ Some t → IfSome latest (λ (s : Stamp). EachOne items (λ u. s.pts <ℤ u))
    → IfSome latest (λ (s : Stamp). pos s.number ≤ℤ (s.pts +ℤ pos (2 ^ 63))) → next_number latest < 2 ^ 64
next_fits None items t fits first past few = omega arith
next_fits (Some s) items t fits first past few = let a : s.pts <ℤ t = past 0 t first in omega (arith, ints)

pub sound_passed : (old : LaneValue) (t : ℤ) (more : List ℤ) → IsSound old → SFits w64 t → old.waiting ≡ t ∷ more
    → IsSound (record old { waiting = more; latest = Some (record { number = next_number old.latest; pts = t }) })
sound_passed old t more s fits is = record {
  rising = λ m n u v lt e f. s.rising (suc m) (suc n) u v (omega arith) (ap (λ ts. slice_get ts (suc m)) is ∙ e) (ap (λ ts. slice_get ts (suc n)) is ∙ f);
  past = λ k u e. s.rising 0 (suc k) t u (omega arith) (ap (λ ts. slice_get ts 0) is) (ap (λ ts. slice_get ts (suc k)) is ∙ e);
  few = fewer old.latest old.waiting t fits (ap (λ ts. slice_get ts 0) is) s.past s.few;
}

pushed_past : (latest : Option Stamp) (waiting items : List ℤ) (t : ℤ) → IfSome latest (λ (s : Stamp). EachOne waiting (λ u. s.pts <ℤ u)) → IfSome latest (λ (s : Stamp). s.pts <ℤ t)
    → items ≡ waiting ++ t ∷ [] → IfSome latest (λ (s : Stamp). EachOne items (λ u. s.pts <ℤ u))
pushed_past None waiting items t old new is = tt
pushed_past (Some s) waiting items t old new is = λ k u e. elim (pushed_at waiting t k u (subst (λ (ts : List ℤ). slice_get ts k ≡ Some u) is e)) [
  | inl a ↦ old k u a
  | inr a ↦ subst (λ (z : ℤ). s.pts <ℤ z) (sym a.1) new
]

pub sound_pushed : (old : LaneValue) (t : ℤ) (items : List ℤ) → IsSound old → IsPast old t → items ≡ old.waiting ++ t ∷ [] → IsSound (record old { waiting = items })
sound_pushed old t items s past is = record {
  rising = subst IsRising (sym is) (rising_more old.waiting t s.rising past.0);
  past = pushed_past old.latest old.waiting items t s.past past.1 is;
  few = s.few;
}
