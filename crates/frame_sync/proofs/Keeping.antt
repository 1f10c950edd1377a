-- What is kept of an input determines all that a turn needs.
use Rattle.std.proofs.Common.{◌≡◌, ◌≢◌, ◌<◌, ◌<ℤ◌, ◌≤ℤ◌, ◌+◌, ◌++◌, ◌∙◌, ◌⊎◌, ℕ, zero, suc, ℤ, List, [], ◌∷◌, Option, Some, None, length, refl, sym, subst, ap, arith, inl, inr, append_assoc}
use Rattle.std.specs.Prelude.{IfSome}
use Rattle.std.specs.List.{slice_get}
use Rattle.std.proofs.lemmas.Bool.{cases_lt}
use Rattle.std.proofs.lemmas.Int.{ints}
use Rattle.std.proofs.lemmas.List.{length_push}
use Rattle.std.proofs.lemmas.Option.{same_Some, none-some, slice_get_within}
use Rattle.frame_sync.specs.declared.rules.Rule.{Rule}
use Rattle.frame_sync.specs.declared.stamp.Stamp.{Stamp}
use Rattle.frame_sync.specs.Framesync.{Input, SomeOne, EachOne, IsRising, HasAt, HasFrom, HasUpTo, IsGone, IsCurrent}
use Rattle.av_base.proofs.Lists.{append_get_left, append_get, pushed_last, pushed_at}
use Rattle.frame_sync.specs.Lanes.{LaneValue, Heads, HasBegun, Passes, HasLeft, IsCurrentOf, next_number}
use Rattle.frame_sync.specs.Timelines.{IsLatest, Keeps}
use Rattle.frame_sync.proofs.Along.{cases_ltz}
use Rattle.frame_sync.proofs.Searches.{something_waits}

-- ---- where a frame is

-- an item of the second part comes after the first
second_at : {X : Type 0} (xs ys : List X) (k : ℕ) (y : X) → slice_get ys k ≡ Some y → slice_get (xs ++ ys) (length xs + k) ≡ Some y
second_at {X} [] ys k y e = subst (λ (n : ℕ). slice_get ys n ≡ Some y) (omega arith) e
second_at {X} (x ∷ xs) ys k y e = subst (λ (n : ℕ). slice_get ((x ∷ xs) ++ ys) n ≡ Some y) (let z : suc (length xs + k) ≡ length (x ∷ xs) + k = omega arith in z) (second_at xs ys k y e)

pub passed_frame : {c : ℤ} {l : LaneValue} {i : Input} (h : Keeps c l i) (k : ℕ) (u : ℤ) → slice_get h.passed k ≡ Some u → slice_get i.times k ≡ Some u
passed_frame {c} {l} {i} h k u e = subst (λ (ts : List ℤ). slice_get ts k ≡ Some u) (sym h.times) (append_get_left h.passed l.waiting k u e)

pub waiting_frame : {c : ℤ} {l : LaneValue} {i : Input} (h : Keeps c l i) (k : ℕ) (u : ℤ) → slice_get l.waiting k ≡ Some u → slice_get i.times (length h.passed + k) ≡ Some u
waiting_frame {c} {l} {i} h k u e = subst (λ (ts : List ℤ). slice_get ts (length h.passed + k) ≡ Some u) (sym h.times) (second_at h.passed l.waiting k u e)

-- a frame was passed, or it waits
pub frame_cases : {c : ℤ} {l : LaneValue} {i : Input} (h : Keeps c l i) (n : ℕ) (u : ℤ) → slice_get i.times n ≡ Some u
    → (slice_get h.passed n ≡ Some u) ⊎ ((k : ℕ) × (n ≡ length h.passed + k) × (slice_get l.waiting k ≡ Some u))
frame_cases {c} {l} {i} h n u e = append_get h.passed l.waiting n u (subst (λ (ts : List ℤ). slice_get ts n ≡ Some u) h.times e)

-- a frame after the clock waits
pub frame_waits : {c : ℤ} {l : LaneValue} {i : Input} (h : Keeps c l i) (n : ℕ) (u : ℤ) → slice_get i.times n ≡ Some u → c <ℤ u → (k : ℕ) × (slice_get l.waiting k ≡ Some u)
frame_waits h n u e lt = elim (frame_cases h n u e) [ inl was ↦ absurd (let p = h.reached n u was in omega (arith, ints)) | inr waits ↦ (waits.0, waits.2) ]

-- what waits rises
pub waiting_rises : {c : ℤ} {l : LaneValue} {i : Input} → Keeps c l i → IsRising l.waiting
waiting_rises h m n t u lt e f = h.rising (length h.passed + m) (length h.passed + n) t u (omega arith) (waiting_frame h m t e) (waiting_frame h n u f)

-- the first that waits is the earliest
pub head_is_earliest : {c : ℤ} {l : LaneValue} {i : Input} → Keeps c l i → (k : ℕ) (u : ℤ) → slice_get l.waiting k ≡ Some u → (v : ℤ) × Heads l v × (v ≤ℤ u)
head_is_earliest h zero u e = (u, e, omega (arith, ints))
head_is_earliest {c} {l} {i} h (suc k) u e =
    let first = something_waits l.waiting (λ none. none-some u (subst (λ (ts : List ℤ). slice_get ts (suc k) ≡ Some u) none e)) in
    (first.0, first.1, let p : first.0 <ℤ u = waiting_rises h 0 (suc k) first.0 u (omega arith) first.1 e in omega (arith, ints))

-- ---- what a lane shows of the earliest time that waits anywhere

pub record Meets (t : ℤ) (l : LaneValue) (i : Input) : Type 0 where
  pub rule : l.rule ≡ i.rule
  pub ended : l.ended ≡ i.ended
  pub heads : HasAt i t → Heads l t
  pub at : Heads l t → HasAt i t
  pub waits : HasFrom i t → l.waiting ≢ []
  pub from : l.waiting ≢ [] → HasFrom i t
  pub begun : HasUpTo i t → HasBegun l t
  pub up_to : HasBegun l t → HasUpTo i t

passed_some : (passed : List ℤ) (latest : Option Stamp) → IsLatest passed latest → latest ≢ None → SomeOne passed (λ (u : ℤ). ℕ)
passed_some passed None is some = absurd (some refl)
passed_some passed (Some s) is some = (length is.0, s.pts, subst (λ (ts : List ℤ). slice_get ts (length is.0) ≡ Some s.pts) (sym is.1) (pushed_last is.0 s.pts), 0)

latest_some : (passed : List ℤ) (latest : Option Stamp) (k : ℕ) (u : ℤ) → IsLatest passed latest → slice_get passed k ≡ Some u → latest ≢ None
latest_some passed None k u is e none = none-some u (subst (λ (ts : List ℤ). slice_get ts k ≡ Some u) is e)
latest_some passed (Some s) k u is e none = none-some s (sym none)

pub meets : {c : ℤ} {l : LaneValue} {i : Input} (t : ℤ) → Keeps c l i → c <ℤ t → ((u : ℤ) → Heads l u → t ≤ℤ u) → Meets t l i
meets {c} {l} {i} t h after earliest = record {
  rule = h.rule;
  ended = h.ended;
  heads = λ at.
      let w = frame_waits h at.0 at.1 at.2 (let p : at.1 ≡ t = at.3 in omega (arith, ints)) in
      let first = head_is_earliest h w.0 at.1 w.1 in
      subst (λ (z : ℤ). Heads l z) (let p : first.0 ≤ℤ at.1 = first.2 in let q : t ≤ℤ first.0 = earliest first.0 first.1 in let r : at.1 ≡ t = at.3 in omega (arith, ints)) first.1;
  at = λ head. (length h.passed + 0, t, waiting_frame h 0 t head, refl);
  waits = λ from none.
      let w = frame_waits h from.0 from.1 from.2 (let p : t ≤ℤ from.1 = from.3 in omega (arith, ints)) in
      none-some from.1 (subst (λ (ts : List ℤ). slice_get ts w.0 ≡ Some from.1) none w.1);
  from = λ some. let first = something_waits l.waiting some in (length h.passed + 0, first.0, waiting_frame h 0 first.0 first.1, earliest first.0 first.1);
  begun = λ up. elim (frame_cases h up.0 up.1 up.2) [
    | inl was ↦ inl (latest_some h.passed l.latest up.0 up.1 h.latest was)
    | inr w ↦ (
        let first = head_is_earliest h w.0 up.1 w.2 in
        inr (subst (λ (z : ℤ). Heads l z) (let p : first.0 ≤ℤ up.1 = first.2 in let q : t ≤ℤ first.0 = earliest first.0 first.1 in let r : up.1 ≤ℤ t = up.3 in omega (arith, ints)) first.1)
        )
  ];
  up_to = λ begun. elim begun [
    | inl some ↦ (let p = passed_some h.passed l.latest h.latest some in (p.0, p.1, passed_frame h p.0 p.1 p.2, let q : p.1 ≤ℤ c = h.reached p.0 p.1 p.2 in omega (arith, ints)))
    | inr head ↦ (length h.passed + 0, t, waiting_frame h 0 t head, omega (arith, ints))
  ];
}

-- ---- a time is passed

next_is_length : (passed : List ℤ) (latest : Option Stamp) → IsLatest passed latest → next_number latest ≡ length passed
next_is_length passed None is = ap (λ (ts : List ℤ). length ts) (sym is)
next_is_length passed (Some s) is = let a = length_push is.0 s.pts in let b = ap (λ (ts : List ℤ). length ts) is.1 in let c = is.2 in omega arith

pub keeps_passed : {c : ℤ} {l m : LaneValue} {i : Input} (t : ℤ) → Keeps c l i → c <ℤ t → ((u : ℤ) → Heads l u → t ≤ℤ u) → Passes l t m → Keeps t m i
keeps_passed {c} {l} {m} {i} t h after earliest p = elim p [
  | inl q ↦ subst (λ (z : LaneValue). Keeps t z i) (sym q.1) (record {
    rule = h.rule;
    ended = h.ended;
    rising = h.rising;
    passed = h.passed ++ t ∷ [];
    times = rw append_assoc (h.times ∙ ap (λ (ts : List ℤ). h.passed ++ ts) q.0);
    latest = (h.passed, refl, next_is_length h.passed l.latest h.latest);
    reached = λ k u e. elim (pushed_at h.passed t k u e) [
      | inl was ↦ (let a = h.reached k u was in omega (arith, ints))
      | inr last ↦ (let a : u ≡ t = last.1 in omega (arith, ints))
    ];
    ahead = λ k u e. waiting_rises h 0 (suc k) t u (omega arith) (ap (λ (ts : List ℤ). slice_get ts 0) q.0) (ap (λ (ts : List ℤ). slice_get ts (suc k)) q.0 ∙ e);
  })
  | inr q ↦ subst (λ (z : LaneValue). Keeps t z i) (sym q.1) (record {
    rule = h.rule;
    ended = h.ended;
    rising = h.rising;
    passed = h.passed;
    times = h.times;
    latest = h.latest;
    reached = λ k u e. let a = h.reached k u e in omega (arith, ints);
    ahead = λ k u e.
        let first = head_is_earliest h k u e in
        elim (cases_ltz t first.0) [
          | inl lt ↦ (let a : first.0 ≤ℤ u = first.2 in omega (arith, ints))
          | inr le ↦ absurd (q.0 (subst (λ (z : ℤ). Heads l z) (let a : t ≤ℤ first.0 = earliest first.0 first.1 in omega (arith, ints)) first.1))
        ];
  })
]

-- ---- the current frame at the clock

pub waits_none : (ts : List ℤ) → EachOne ts (λ (u : ℤ). ⊥) → ts ≡ []
waits_none [] f = refl
waits_none (t ∷ ts) f = absurd (f 0 t refl)

-- each time that was passed is at most the last one
pub up_to_latest : {c : ℤ} {l : LaneValue} {i : Input} (h : Keeps c l i) (s : Stamp) → l.latest ≡ Some s → (slice_get i.times s.number ≡ Some s.pts) × EachOne h.passed (λ (u : ℤ). u ≤ℤ s.pts) × (length h.passed ≡ s.number + 1)
up_to_latest {c} {l} {i} h s e =
    let is : IsLatest h.passed (Some s) = subst (IsLatest h.passed) e h.latest in
    let last : slice_get h.passed (length is.0) ≡ Some s.pts = subst (λ (ts : List ℤ). slice_get ts (length is.0) ≡ Some s.pts) (sym is.1) (pushed_last is.0 s.pts) in
    let many : length h.passed ≡ length is.0 + 1 = ap (λ (ts : List ℤ). length ts) is.1 ∙ length_push is.0 s.pts in (
      subst (λ (n : ℕ). slice_get i.times n ≡ Some s.pts) (sym is.2) (passed_frame h (length is.0) s.pts last),
      (λ k u f. elim (cases_lt k (length is.0)) [
        | inl lt ↦ (let a : u <ℤ s.pts = h.rising k (length is.0) u s.pts lt (passed_frame h k u f) (passed_frame h (length is.0) s.pts last) in omega (arith, ints))
        | inr ge ↦ (
            let lt = slice_get_within h.passed k u f in
            let same : k ≡ length is.0 = omega arith in
            let a : u ≡ s.pts = same_Some u s.pts (sym f ∙ (ap (slice_get h.passed) same ∙ last)) in
            omega (arith, ints)
            )
      ]),
      many ∙ (let a = is.2 in omega arith),
    )

gone_from_left : {t : ℤ} {l : LaneValue} {i : Input} → Keeps t l i → HasLeft l t → IsGone i t
gone_from_left {t} {l} {i} h left = record {
  rule = ap (λ (r : Rule). r.after) (sym h.rule) ∙ left.rule;
  ended = sym h.ended ∙ left.spent.0;
  before = λ n u e. elim (frame_cases h n u e) [
    | inl was ↦ passed_before l.latest refl left.before n u was
    | inr w ↦ absurd (none-some u (subst (λ (ts : List ℤ). slice_get ts w.0 ≡ Some u) left.spent.1 w.2))
  ];
} where
  passed_before : (latest : Option Stamp) → l.latest ≡ latest → IfSome latest (λ (s : Stamp). s.pts <ℤ t) → (n : ℕ) (u : ℤ) → slice_get h.passed n ≡ Some u → u <ℤ t
  passed_before None e lt n u was = absurd (latest_some h.passed l.latest n u h.latest was e)
  passed_before (Some s) e lt n u was = let a : u ≤ℤ s.pts = (up_to_latest h s e).1 n u was in let b : s.pts <ℤ t = lt in omega (arith, ints)

left_from_gone : {t : ℤ} {l : LaneValue} {i : Input} → Keeps t l i → IsGone i t → HasLeft l t
left_from_gone {t} {l} {i} h gone = record {
  rule = ap (λ (r : Rule). r.after) h.rule ∙ gone.rule;
  spent = (
    h.ended ∙ gone.ended,
    waits_none l.waiting (λ k u e.
        let a : t <ℤ u = h.ahead k u e in
        let b : u <ℤ t = gone.before (length h.passed + k) u (waiting_frame h k u e) in
        omega (arith, ints)),
  );
  before = latest_before l.latest refl;
} where
  latest_before : (latest : Option Stamp) → l.latest ≡ latest → IfSome latest (λ (s : Stamp). s.pts <ℤ t)
  latest_before None e = tt
  latest_before (Some s) e = gone.before s.number s.pts (up_to_latest h s e).0

pub current_is : {t : ℤ} {l : LaneValue} {i : Input} (c : Option ℕ) → Keeps t l i → IsCurrentOf l t c → IsCurrent i t c
current_is {t} {l} {i} None h is = elim is [
  | inl none ↦ inl (λ up. elim (frame_cases h up.0 up.1 up.2) [
    | inl was ↦ latest_some h.passed l.latest up.0 up.1 h.latest was none
    | inr w ↦ (let a : t <ℤ up.1 = h.ahead w.0 up.1 w.2 in let b : up.1 ≤ℤ t = up.3 in absurd (omega (arith, ints)))
  ])
  | inr left ↦ inr (gone_from_left h left)
]
current_is {t} {l} {i} (Some n) h is = (
  record {
    here = (s.pts, subst (λ (k : ℕ). slice_get i.times k ≡ Some s.pts) is.0.2 (up_to_latest h s is.0.1).0, at_most);
    later = later;
  },
  λ gone. is.1 (left_from_gone h gone),
) where
  s : Stamp
  s = is.0.0

  at_most : s.pts ≤ℤ t
  at_most = let last = up_to_latest h s is.0.1 in elim (frame_cases h s.number s.pts last.0) [
    | inl was ↦ h.reached s.number s.pts was
    | inr w ↦ absurd (let a = w.1 in let b = last.2 in omega arith)
  ]

  later : (k : ℕ) (u : ℤ) → n < k → slice_get i.times k ≡ Some u → t <ℤ u
  later k u lt e = elim (frame_cases h k u e) [
    | inl was ↦ absurd (let a = slice_get_within h.passed k u was in let b = (up_to_latest h s is.0.1).2 in let d = is.0.2 in omega arith)
    | inr w ↦ h.ahead w.0 u w.2
  ]
