-- Inputs that begin others agree with them up to a time that all their open ones have reached.
use Rattle.std.proofs.Common.{◌≡◌, ◌≤◌, ◌<ℤ◌, ◌≤ℤ◌, ◌∙◌, ◌⊎◌, ℕ, ℤ, false, List, Option, Some, None, sym, subst, ap, arith, inl, inr}
use Rattle.std.specs.List.{slice_get}
use Rattle.std.proofs.lemmas.Bool.{cases_Bool}
use Rattle.std.proofs.lemmas.Int.{ints}
use Rattle.std.proofs.lemmas.Option.{slice_get_within}
use Rattle.frame_sync.specs.declared.rules.Rule.{Rule}
use Rattle.frame_sync.specs.declared.rules.Before.TheVariants as before
use Rattle.frame_sync.specs.declared.rules.After.TheVariants as after
use Rattle.frame_sync.specs.Framesync.{Input, SomeOne, EachOne, IsRising, HasAt, HasFrom, HasUpTo, IsSettled, IsEvent, IsGone, IsLast, IsCurrent}
use Rattle.av_base.proofs.Lists.{append_get_left, append_get}
use Rattle.frame_sync.specs.Lanes.{AreEach}
use Rattle.frame_sync.specs.Laws.{BeginsInput, BeginInputs}
use Rattle.frame_sync.proofs.Along.{some_along, each_along, each_so}

-- every open input has a frame at or after the time
abbrev pub AreReached : List Input → ℤ → Type 0
AreReached inputs t = EachOne inputs (λ (i : Input). i.ended ≡ false → HasFrom i t)

pub from_before : (i : Input) (t u : ℤ) → u ≤ℤ t → HasFrom i t → HasFrom i u
from_before i t u le h = (h.0, h.1, h.2, let a : t ≤ℤ h.1 = h.3 in omega (arith, ints))

pub reached_before : (inputs : List Input) (t u : ℤ) → u ≤ℤ t → AreReached inputs t → AreReached inputs u
reached_before inputs t u le h k i e is_open = from_before i t u le (h k i e is_open)

-- two inputs agree at a time
pub record Agree (u : ℤ) (i j : Input) : Type 0 where
  pub rule : i.rule ≡ j.rule
  pub at : HasAt i u → HasAt j u
  pub at_back : HasAt j u → HasAt i u
  pub from : HasFrom i u → HasFrom j u
  pub from_back : HasFrom j u → HasFrom i u
  pub up_to : HasUpTo i u → HasUpTo j u
  pub up_to_back : HasUpTo j u → HasUpTo i u

-- a frame of the first is one of the second
pub kept : {i j : Input} → BeginsInput i j → (n : ℕ) (u : ℤ) → slice_get i.times n ≡ Some u → slice_get j.times n ≡ Some u
kept {i} {j} b n u e = subst (λ (ts : List ℤ). slice_get ts n ≡ Some u) (sym b.times.1) (append_get_left i.times b.times.0 n u e)

pub kept_some : {i j : Input} (P : ℤ → Type 0) → BeginsInput i j → SomeOne i.times P → SomeOne j.times P
kept_some P b h = (h.0, h.1, kept b h.0 h.1 h.2, h.3)

-- a frame of the second is one of the first, or the first is open and it comes after all of that
pub kept_back : {i j : Input} → BeginsInput i j → IsRising j.times → (n : ℕ) (u : ℤ) → slice_get j.times n ≡ Some u
    → (slice_get i.times n ≡ Some u) ⊎ ((i.ended ≡ false) × EachOne i.times (λ v. v <ℤ u))
kept_back {i} {j} b rising n u e = elim (cases_Bool i.ended) [
  | inl shut ↦ inl (subst (λ (ts : List ℤ). slice_get ts n ≡ Some u) (sym (b.ended shut).1) e)
  | inr is_open ↦ elim (append_get i.times b.times.0 n u (subst (λ (ts : List ℤ). slice_get ts n ≡ Some u) b.times.1 e)) [
    | inl here ↦ inl here
    | inr more ↦ inr (is_open, λ m v f. rising m n v u (let lt = slice_get_within i.times m v f in let place = more.1 in omega arith) (kept b m v f) e)
  ]
]

pub agree : {i j : Input} (u : ℤ) → BeginsInput i j → IsRising j.times → (i.ended ≡ false → HasFrom i u) → Agree u i j
agree {i} {j} u b rising reached = record {
  rule = b.rule;
  at = kept_some (λ v. v ≡ u) b;
  at_back = λ h. elim (kept_back b rising h.0 h.1 h.2) [
    | inl here ↦ (h.0, h.1, here, h.3)
    | inr more ↦ absurd (let r = reached more.0 in let p : r.1 <ℤ h.1 = more.1 r.0 r.1 r.2 in let q : u ≤ℤ r.1 = r.3 in let s : h.1 ≡ u = h.3 in omega (arith, ints))
  ];
  from = kept_some (λ v. u ≤ℤ v) b;
  from_back = λ h. elim (kept_back b rising h.0 h.1 h.2) [ inl here ↦ (h.0, h.1, here, h.3) | inr more ↦ reached more.0 ];
  up_to = kept_some (λ v. v ≤ℤ u) b;
  up_to_back = λ h. elim (kept_back b rising h.0 h.1 h.2) [
    | inl here ↦ (h.0, h.1, here, h.3)
    | inr more ↦ absurd (let r = reached more.0 in let p : r.1 <ℤ h.1 = more.1 r.0 r.1 r.2 in let q : u ≤ℤ r.1 = r.3 in let s : h.1 ≤ℤ u = h.3 in omega (arith, ints))
  ];
}

pub all_agree : {a b : List Input} (u : ℤ) → BeginInputs a b → AreReached a u → AreEach (Agree u) a b
all_agree u h reached = each_so h.each (λ k i j e f begins. agree u begins (h.rising k j f) (reached k i e))

-- ---- what agrees has the same events

-- if the open ones of the second have a frame at or after the time too
pub event_along : {a b : List Input} (u : ℤ) → AreEach (Agree u) a b → AreReached b u → IsEvent a u → IsEvent b u
event_along u h reached e = record {
  settled = record { here = some_along (λ (i : Input). HasAt i u) (λ (i : Input). HasAt i u) h (λ i j g. g.at) e.settled.here; ahead = reached };
  level = e.level;
  is_level = record {
    reached = some_along (λ (i : Input). HasFrom i u × (i.rule.sync ≡ e.level)) (λ (i : Input). HasFrom i u × (i.rule.sync ≡ e.level)) h
        (λ i j g p. (g.from p.0, ap (λ (r : Rule). r.sync) (sym g.rule) ∙ p.1)) e.is_level.reached;
    greatest = each_along (λ (i : Input). HasFrom i u → i.rule.sync ≤ e.level) (λ (i : Input). HasFrom i u → i.rule.sync ≤ e.level) h
        (λ i j g p from. subst (λ (r : Rule). r.sync ≤ e.level) g.rule (p (g.from_back from))) e.is_level.greatest;
  };
  above_0 = e.above_0;
  meets = some_along (λ (i : Input). HasAt i u × (i.rule.sync ≡ e.level)) (λ (i : Input). HasAt i u × (i.rule.sync ≡ e.level)) h
      (λ i j g p. (g.at p.0, ap (λ (r : Rule). r.sync) (sym g.rule) ∙ p.1)) e.meets;
  begun = each_along (λ (i : Input). i.rule.before ≡ before.Stop → HasUpTo i u) (λ (i : Input). i.rule.before ≡ before.Stop → HasUpTo i u) h
      (λ i j g p stop. g.up_to (p (ap (λ (r : Rule). r.before) g.rule ∙ stop))) e.begun;
  lasting = each_along (λ (i : Input). i.rule.after ≡ after.Stop → HasFrom i u) (λ (i : Input). i.rule.after ≡ after.Stop → HasFrom i u) h
      (λ i j g p stop. g.from (p (ap (λ (r : Rule). r.after) g.rule ∙ stop))) e.lasting;
}

agree_back : {i j : Input} (u : ℤ) → Agree u i j → Agree u j i
agree_back u g = record { rule = sym g.rule; at = g.at_back; at_back = g.at; from = g.from_back; from_back = g.from; up_to = g.up_to_back; up_to_back = g.up_to }

pub all_agree_back : {a b : List Input} (u : ℤ) → AreEach (Agree u) a b → AreEach (Agree u) b a
all_agree_back u h = record { same = sym h.same; each = λ k j i f e. agree_back u (h.each k i j e f) }

-- an open input of the second is open in the first
pub still_open : {i j : Input} → BeginsInput i j → j.ended ≡ false → i.ended ≡ false
still_open {i} {j} b is_open = elim (cases_Bool i.ended) [ inl shut ↦ absurd (let e = (b.ended shut).0 in cc) | inr still ↦ still ]

pub reached_along : {a b : List Input} (u : ℤ) → BeginInputs a b → AreReached a u → AreReached b u
reached_along u h = each_along (λ (i : Input). i.ended ≡ false → HasFrom i u) (λ (i : Input). i.ended ≡ false → HasFrom i u) h.each
    (λ i j b p is_open. kept_some (λ v. u ≤ℤ v) b (p (still_open b is_open)))

pub settled_along : {a b : List Input} (u : ℤ) → BeginInputs a b → IsSettled a u → IsSettled b u
settled_along u h s = record {
  here = some_along (λ (i : Input). HasAt i u) (λ (i : Input). HasAt i u) h.each (λ i j b. kept_some (λ v. v ≡ u) b) s.here;
  ahead = reached_along u h s.ahead;
}

pub event_grows : {a b : List Input} (u : ℤ) → BeginInputs a b → IsEvent a u → IsEvent b u
event_grows u h e = event_along u (all_agree u h e.settled.ahead) (reached_along u h e.settled.ahead) e

pub event_shrinks : {a b : List Input} (u : ℤ) → BeginInputs a b → AreReached a u → IsEvent b u → IsEvent a u
event_shrinks u h reached e = event_along u (all_agree_back u (all_agree u h reached)) reached e

-- ---- and the same current frames

pub gone_grows : {i j : Input} (t : ℤ) → BeginsInput i j → IsGone i t → IsGone j t
gone_grows {i} {j} t b g = record {
  rule = ap (λ (r : Rule). r.after) (sym b.rule) ∙ g.rule;
  ended = (b.ended g.ended).0;
  before = subst (λ (ts : List ℤ). EachOne ts (λ u. u <ℤ t)) (b.ended g.ended).1 g.before;
}

gone_shrinks : {i j : Input} (t : ℤ) → BeginsInput i j → (i.ended ≡ false → HasFrom i t) → IsGone j t → IsGone i t
gone_shrinks {i} {j} t b reached g = elim (cases_Bool i.ended) [
  | inl shut ↦ record {
    rule = ap (λ (r : Rule). r.after) b.rule ∙ g.rule;
    ended = shut;
    before = subst (λ (ts : List ℤ). EachOne ts (λ u. u <ℤ t)) (sym (b.ended shut).1) g.before;
  }
  | inr is_open ↦ absurd (let r = reached is_open in let p : r.1 <ℤ t = g.before r.0 r.1 (kept b r.0 r.1 r.2) in let q : t ≤ℤ r.1 = r.3 in omega (arith, ints))
]

last_grows : {i j : Input} (t : ℤ) (n : ℕ) → BeginsInput i j → IsRising j.times → (i.ended ≡ false → HasFrom i t) → IsLast i t n → IsLast j t n
last_grows {i} {j} t n b rising reached h = record {
  here = (h.here.0, kept b n h.here.0 h.here.1, h.here.2);
  later = λ k u lt e. elim (kept_back b rising k u e) [
    | inl here ↦ h.later k u lt here
    | inr more ↦ (let r = reached more.0 in let p : r.1 <ℤ u = more.1 r.0 r.1 r.2 in let q : t ≤ℤ r.1 = r.3 in omega (arith, ints))
  ];
}

pub current_grows : {i j : Input} (t : ℤ) (c : Option ℕ) → BeginsInput i j → IsRising j.times → (i.ended ≡ false → HasFrom i t) → IsCurrent i t c → IsCurrent j t c
current_grows {i} {j} t None b rising reached h = elim h [
  | inl none ↦ inl (λ up. none ((agree t b rising reached).up_to_back up))
  | inr gone ↦ inr (gone_grows t b gone)
]
current_grows {i} {j} t (Some n) b rising reached h = (last_grows t n b rising reached h.0, λ gone. h.1 (gone_shrinks t b reached gone))
