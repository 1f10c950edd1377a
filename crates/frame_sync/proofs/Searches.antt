-- The earliest time that waits, and the greatest sync, as far as a walk has come.
use Rattle.std.proofs.Common.{◌≡◌, ◌≢◌, ◌<◌, ◌≤◌, ◌≤ℤ◌, ◌+◌, ℕ, ℤ, List, [], ◌∷◌, Option, Some, None, MatchOption, length, get_or, max, refl, sym, subst, arith, inl, inr}
use Rattle.std.specs.List.{slice_get}
use Rattle.std.proofs.lemmas.Bool.{cases_lt}
use Rattle.std.proofs.lemmas.Int.{ints}
use Rattle.std.proofs.lemmas.Option.{same_Some, none-some}
use Rattle.frame_sync.specs.Framesync.{SomeOne, EachOne}
use Rattle.frame_sync.specs.Lanes.{LaneValue, Heads, IsEarliestTime, IsEarlier, IsTop}
use Rattle.frame_sync.proofs.Loops.{EachBelow, each_none, each_more, each_all, some_here}

pub nothing_waits : (ts : List ℤ) → slice_get ts 0 ≡ None → ts ≡ []
nothing_waits [] e = refl
nothing_waits (t ∷ ts) e = absurd (none-some t (sym e))

pub something_waits : (ts : List ℤ) → ts ≢ [] → (t : ℤ) × (slice_get ts 0 ≡ Some t)
something_waits [] h = absurd (h refl)
something_waits (t ∷ ts) h = (t, refl)

-- ---- the earliest time

abbrev pub EarliestBelow : List LaneValue → ℕ → Option ℤ → Type 0
EarliestBelow lanes i None = EachBelow (λ (x : LaneValue). x.waiting ≡ []) lanes i
EarliestBelow lanes i (Some t) = SomeOne lanes (λ (x : LaneValue). Heads x t) × EachBelow (λ (x : LaneValue). (u : ℤ) → Heads x u → t ≤ℤ u) lanes i

pub earliest_more : (lanes : List LaneValue) (i : ℕ) (l : LaneValue) (earliest new : Option ℤ) → i < length lanes → l ≡ get_or lanes i l → IsEarlier earliest (slice_get l.waiting 0) new → EarliestBelow lanes i earliest → EarliestBelow lanes (i + 1) new
earliest_more lanes i l None None within is e h = each_more (λ (x : LaneValue). x.waiting ≡ []) lanes i l within is h (nothing_waits l.waiting e.1)
earliest_more lanes i l (Some s) None within is e h = absurd (none-some s (sym e.0))
earliest_more lanes i l None (Some t) within is e h = (
  elim e.0 [ inl none ↦ absurd (none-some t none) | inr here ↦ some_here (λ (x : LaneValue). Heads x t) lanes i l within is here ],
  each_more (λ (x : LaneValue). (u : ℤ) → Heads x u → t ≤ℤ u) lanes i l within is
      (λ k x lt f u head. absurd (none-some u (subst (λ (ts : List ℤ). slice_get ts 0 ≡ Some u) (h k x lt f) head)))
      (λ u head. e.2 u head),
)
earliest_more lanes i l (Some s) (Some t) within is e h = (
  elim e.0 [
    | inl same ↦ subst (λ (z : ℤ). SomeOne lanes (λ (x : LaneValue). Heads x z)) (same_Some s t same) h.0
    | inr here ↦ some_here (λ (x : LaneValue). Heads x t) lanes i l within is here
  ],
  each_more (λ (x : LaneValue). (u : ℤ) → Heads x u → t ≤ℤ u) lanes i l within is
      (λ k x lt f u head. let a : s ≤ℤ u = h.1 k x lt f u head in let b : t ≤ℤ s = e.1 s refl in omega (arith, ints))
      (λ u head. e.2 u head),
)

pub earliest_all : (lanes : List LaneValue) (i : ℕ) (earliest : Option ℤ) → length lanes ≤ i → EarliestBelow lanes i earliest → MatchOption earliest (EachOne lanes (λ (l : LaneValue). l.waiting ≡ [])) (IsEarliestTime lanes)
earliest_all lanes i None all h = each_all (λ (x : LaneValue). x.waiting ≡ []) lanes i all h
earliest_all lanes i (Some t) all h = record { here = h.0; earliest = each_all (λ (x : LaneValue). (u : ℤ) → Heads x u → t ≤ℤ u) lanes i all h.1 }

-- ---- the greatest sync

pub record TopBelow (lanes : List LaneValue) (i level : ℕ) : Type 0 where
  pub reached : 0 < level → SomeOne lanes (λ (x : LaneValue). (x.waiting ≢ []) × (x.rule.sync ≡ level))
  pub greatest : EachBelow (λ (x : LaneValue). x.waiting ≢ [] → x.rule.sync ≤ level) lanes i

pub top_none : (lanes : List LaneValue) → TopBelow lanes 0 0
top_none lanes = record { reached = λ h. absurd (omega arith); greatest = each_none (λ (x : LaneValue). x.waiting ≢ [] → x.rule.sync ≤ 0) lanes }

-- it has nothing waiting, or no greater sync
pub top_same : (lanes : List LaneValue) (i : ℕ) (l : LaneValue) (level : ℕ) → i < length lanes → l ≡ get_or lanes i l → (l.waiting ≢ [] → l.rule.sync ≤ level) → TopBelow lanes i level → TopBelow lanes (i + 1) level
top_same lanes i l level within is less h = record {
  reached = h.reached;
  greatest = each_more (λ (x : LaneValue). x.waiting ≢ [] → x.rule.sync ≤ level) lanes i l within is h.greatest less;
}

-- it has something waiting
pub top_more : (lanes : List LaneValue) (i : ℕ) (l : LaneValue) (level : ℕ) → i < length lanes → l ≡ get_or lanes i l → l.waiting ≢ [] → TopBelow lanes i level → TopBelow lanes (i + 1) (max level l.rule.sync)
top_more lanes i l level within is waits h = elim (cases_lt level l.rule.sync) [
  | inl more ↦ (let e : max level l.rule.sync ≡ l.rule.sync = omega arith in rw e (record {
    reached = λ _. some_here (λ (x : LaneValue). (x.waiting ≢ []) × (x.rule.sync ≡ l.rule.sync)) lanes i l within is (waits, refl);
    greatest = each_more (λ (x : LaneValue). x.waiting ≢ [] → x.rule.sync ≤ l.rule.sync) lanes i l within is
        (λ k x lt f some. let a = h.greatest k x lt f some in omega arith)
        (λ _. omega arith);
  }))
  | inr less ↦ (let e : max level l.rule.sync ≡ level = omega arith in rw e (top_same lanes i l level within is (λ _. less) h))
]

pub top_all : (lanes : List LaneValue) (i level : ℕ) → length lanes ≤ i → TopBelow lanes i level → IsTop lanes level
top_all lanes i level all h = record { reached = h.reached; greatest = each_all (λ (x : LaneValue). x.waiting ≢ [] → x.rule.sync ≤ level) lanes i all h.greatest }
