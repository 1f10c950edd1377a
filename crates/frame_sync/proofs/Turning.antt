-- One turn: the earliest time that waits is passed.
use Rattle.std.proofs.Common.{◌≡◌, ◌≢◌, ◌<◌, ◌≤◌, ◌<ℤ◌, ◌≤ℤ◌, ◌++◌, ◌∙◌, ℕ, zero, suc, ℤ, false, List, [], ◌∷◌, length, refl, sym, subst, ap, arith, inl, inr}
use Rattle.std.specs.List.{slice_get}
use Rattle.std.proofs.lemmas.Bool.{cases_Bool}
use Rattle.std.proofs.lemmas.Int.{ints}
use Rattle.std.proofs.lemmas.List.{length_push}
use Rattle.std.proofs.lemmas.Option.{same_Some, none-some}
use Rattle.frame_sync.specs.declared.rules.Rule.{Rule}
use Rattle.frame_sync.specs.declared.rules.Before.TheVariants as before
use Rattle.frame_sync.specs.declared.rules.After.TheVariants as after
use Rattle.frame_sync.specs.Framesync.{Input, SomeOne, EachOne, HasAt, HasFrom, HasUpTo, IsSettled, IsEvent, BeginEvents, IsCurrent}
use Rattle.av_base.proofs.Lists.{pushed_at, pushed_last}
use Rattle.frame_sync.specs.Histories.{History, IsShown}
use Rattle.frame_sync.specs.Lanes.{LaneValue, IsDone, IsHungryAt, Heads, IsEarliestTime, HasBegun, MakesEvent, Passes, PassesAll, ShowsAll, AreEach, waiting_count}
use Rattle.frame_sync.specs.Timelines.{Keeps, CanCome, Represents}
use Rattle.frame_sync.proofs.Pushes.{rising_more}
use Rattle.frame_sync.proofs.Rising.{Has, has_last, has_pushed}
use Rattle.frame_sync.proofs.Along.{partner, partner_back, some_along, some_back, each_along, each_back, each_so, cases_ltz}
use Rattle.frame_sync.proofs.Agreeing.{AreReached, reached_before}
use Rattle.frame_sync.proofs.Keeping.{Meets, meets, keeps_passed, current_is, frame_waits, head_is_earliest}

-- the earliest time is passed while no open input lacks a time, and not all has ended
pub record Turns (lanes : List LaneValue) (h : History) (t : ℤ) : Type 0 where
  pub represents : Represents lanes h
  pub earliest : IsEarliestTime lanes t
  pub fed : (k : ℕ) → ¬ IsHungryAt lanes k
  pub lasting : ¬ IsDone lanes

-- ---- what holds at that time

after_clock : {lanes : List LaneValue} {h : History} {t : ℤ} (s : Turns lanes h t) → s.represents.clock <ℤ t
after_clock s = let here = s.earliest.here in let i = partner s.represents.keeps here.0 here.1 here.2 in i.2.ahead 0 _ here.3

all_meet : {lanes : List LaneValue} {h : History} {t : ℤ} → Turns lanes h t → AreEach (Meets t) lanes h.inputs
all_meet {lanes} {h} {t} s = each_so s.represents.keeps (λ k l i e f keeps. meets t keeps (after_clock s) (s.earliest.earliest k l e))

all_reached : {lanes : List LaneValue} {h : History} {t : ℤ} → Turns lanes h t → AreReached h.inputs t
all_reached {lanes} {h} {t} s = each_along (λ (l : LaneValue). l.ended ≡ false → l.waiting ≢ []) (λ (i : Input). i.ended ≡ false → HasFrom i t) (all_meet s)
    (λ l i m p is_open. m.from (p (m.ended ∙ is_open)))
    (λ k l e is_open none. s.fed k (l, e, (is_open, none)))

is_settled : {lanes : List LaneValue} {h : History} {t : ℤ} → Turns lanes h t → IsSettled h.inputs t
is_settled {lanes} {h} {t} s = record {
  here = some_along (λ (l : LaneValue). Heads l t) (λ (i : Input). HasAt i t) (all_meet s) (λ l i m. m.at) s.earliest.here;
  ahead = all_reached s;
}

-- a Stop-after input has something waiting
stop_waits : {lanes : List LaneValue} {h : History} {t : ℤ} → Turns lanes h t → EachOne lanes (λ (l : LaneValue). l.rule.after ≡ after.Stop → l.waiting ≢ [])
stop_waits s k l e stop none = elim (cases_Bool l.ended) [
  | inl shut ↦ s.lasting (inl (k, l, e, inr (stop, (shut, none))))
  | inr is_open ↦ s.fed k (l, e, (is_open, none))
]

pub is_event : {lanes : List LaneValue} {h : History} {t : ℤ} → Turns lanes h t → MakesEvent lanes t → IsEvent h.inputs t
is_event {lanes} {h} {t} s m = record {
  settled = is_settled s;
  level = m.level;
  is_level = record {
    reached = some_along (λ (l : LaneValue). (l.waiting ≢ []) × (l.rule.sync ≡ m.level)) (λ (i : Input). HasFrom i t × (i.rule.sync ≡ m.level)) (all_meet s)
        (λ l i g p. (g.from p.0, ap (λ (r : Rule). r.sync) (sym g.rule) ∙ p.1)) (m.top.reached m.above_0);
    greatest = each_along (λ (l : LaneValue). l.waiting ≢ [] → l.rule.sync ≤ m.level) (λ (i : Input). HasFrom i t → i.rule.sync ≤ m.level) (all_meet s)
        (λ l i g p from. subst (λ (r : Rule). r.sync ≤ m.level) g.rule (p (g.waits from))) m.top.greatest;
  };
  above_0 = m.above_0;
  meets = some_along (λ (l : LaneValue). Heads l t × (l.rule.sync ≡ m.level)) (λ (i : Input). HasAt i t × (i.rule.sync ≡ m.level)) (all_meet s)
      (λ l i g p. (g.at p.0, ap (λ (r : Rule). r.sync) (sym g.rule) ∙ p.1)) m.meets;
  begun = each_along (λ (l : LaneValue). l.rule.before ≡ before.Stop → HasBegun l t) (λ (i : Input). i.rule.before ≡ before.Stop → HasUpTo i t) (all_meet s)
      (λ l i g p stop. g.up_to (p (ap (λ (r : Rule). r.before) g.rule ∙ stop))) m.begun;
  lasting = each_along (λ (l : LaneValue). l.rule.after ≡ after.Stop → l.waiting ≢ []) (λ (i : Input). i.rule.after ≡ after.Stop → HasFrom i t) (all_meet s)
      (λ l i g p stop. g.from (p (ap (λ (r : Rule). r.after) g.rule ∙ stop))) (stop_waits s);
}

pub makes_event : {lanes : List LaneValue} {h : History} {t : ℤ} → Turns lanes h t → IsEvent h.inputs t → MakesEvent lanes t
makes_event {lanes} {h} {t} s e = record {
  level = e.level;
  top = record {
    reached = λ _. some_back (λ (l : LaneValue). (l.waiting ≢ []) × (l.rule.sync ≡ e.level)) (λ (i : Input). HasFrom i t × (i.rule.sync ≡ e.level)) (all_meet s)
        (λ l i g p. (g.waits p.0, ap (λ (r : Rule). r.sync) g.rule ∙ p.1)) e.is_level.reached;
    greatest = each_back (λ (l : LaneValue). l.waiting ≢ [] → l.rule.sync ≤ e.level) (λ (i : Input). HasFrom i t → i.rule.sync ≤ e.level) (all_meet s)
        (λ l i g p some. subst (λ (r : Rule). r.sync ≤ e.level) (sym g.rule) (p (g.from some))) e.is_level.greatest;
  };
  above_0 = e.above_0;
  meets = some_back (λ (l : LaneValue). Heads l t × (l.rule.sync ≡ e.level)) (λ (i : Input). HasAt i t × (i.rule.sync ≡ e.level)) (all_meet s)
      (λ l i g p. (g.heads p.0, ap (λ (r : Rule). r.sync) g.rule ∙ p.1)) e.meets;
  begun = each_back (λ (l : LaneValue). l.rule.before ≡ before.Stop → HasBegun l t) (λ (i : Input). i.rule.before ≡ before.Stop → HasUpTo i t) (all_meet s)
      (λ l i g p stop. g.begun (p (ap (λ (r : Rule). r.before) (sym g.rule) ∙ stop))) e.begun;
}

-- there is no frame between the clock and that time
none_between : {lanes : List LaneValue} {h : History} {t : ℤ} (s : Turns lanes h t) (u : ℤ) → SomeOne h.inputs (λ (i : Input). HasAt i u) → s.represents.clock <ℤ u → u ≤ℤ t → u ≡ t
none_between {lanes} {h} {t} s u here lt le =
    let l = partner_back s.represents.keeps here.0 here.1 here.2 in
    let at = here.3 in
    let same : at.1 ≡ u = at.3 in
    let w = frame_waits l.2 at.0 at.1 at.2 (omega (arith, ints)) in
    let first = head_is_earliest l.2 w.0 at.1 w.1 in
    let a : first.0 ≤ℤ at.1 = first.2 in
    let b : t ≤ℤ first.0 = s.earliest.earliest here.0 l.0 l.1 first.0 first.1 in
    omega (arith, ints)

-- ---- what holds after the turn

keeps_all : {lanes new : List LaneValue} {h : History} {t : ℤ} → Turns lanes h t → PassesAll lanes t new → AreEach (Keeps t) new h.inputs
keeps_all {lanes} {new} {h} {t} s p = record {
  same = sym p.same ∙ s.represents.keeps.same;
  each = λ k m i e f. let l = partner_back p k m e in keeps_passed t (s.represents.keeps.each k l.0 i l.1 f) (after_clock s) (s.earliest.earliest k l.0 l.1) l.2;
}

settled_up_to : {lanes : List LaneValue} {h : History} {t : ℤ} → Turns lanes h t → (u : ℤ) → SomeOne h.inputs (λ (i : Input). HasAt i u) → u ≤ℤ t → IsSettled h.inputs u
settled_up_to {lanes} {h} {t} s u here le = record { here = here; ahead = reached_before h.inputs t u le (all_reached s) }

comes_after : {lanes : List LaneValue} {h : History} {t : ℤ} → Turns lanes h t → EachOne h.inputs (λ (i : Input). i.ended ≡ false → (u : ℤ) → CanCome i u → t <ℤ u)
comes_after {lanes} {h} {t} s k i e is_open u can =
    let from = all_reached s k i e is_open in
    let a : t ≤ℤ from.1 = from.3 in
    let b : from.1 <ℤ u = can.1 from.0 from.1 from.2 in
    omega (arith, ints)

current_stays : (l : LaneValue) (t : ℤ) (m : LaneValue) → Passes l t m → m.current ≡ l.current
current_stays l t m p = elim p [ inl q ↦ ap (λ (z : LaneValue). z.current) q.1 | inr q ↦ ap (λ (z : LaneValue). z.current) q.1 ]

-- there is no event
pub represents_passed : {lanes new : List LaneValue} {h : History} {t : ℤ} → Turns lanes h t → PassesAll lanes t new → ¬ MakesEvent lanes t → Represents new h
represents_passed {lanes} {new} {h} {t} s p none = record {
  clock = t;
  keeps = keeps_all s p;
  settled = settled_up_to s;
  coming = comes_after s;
  rising = s.represents.rising;
  each = λ k u e. ((s.represents.each k u e).0, let a = (s.represents.each k u e).1 in let b = after_clock s in omega (arith, ints));
  all = λ u e le. elim (cases_ltz s.represents.clock u) [
    | inl after ↦ absurd (none (makes_event s (subst (IsEvent h.inputs) (none_between s u e.settled.here after le) e)))
    | inr earlier ↦ s.represents.all u e earlier
  ];
  shows = λ k m e. let l = partner_back p k m e in subst (IsShown h k) (sym (current_stays l.0 t m l.2)) (s.represents.shows k l.0 l.1);
}

same_last : (xs ys : List ℤ) (x y : ℤ) → xs ++ x ∷ [] ≡ ys ++ y ∷ [] → x ≡ y
same_last xs ys x y e =
    let many : length xs ≡ length ys = (let a = length_push xs x in let b = length_push ys y in let c = ap (λ (ts : List ℤ). length ts) e in omega arith) in
    same_Some x y (sym (pushed_last xs x) ∙ (ap (λ (ts : List ℤ). slice_get ts (length xs)) e ∙ (ap (slice_get (ys ++ y ∷ [])) many ∙ pushed_last ys y)))

keeps_shown : {c : ℤ} {m n : LaneValue} {i : Input} → n ≡ record m { current = n.current } → Keeps c m i → Keeps c n i
keeps_shown {c} {m} {n} {i} e h = subst (λ (z : LaneValue). Keeps c z i) (sym e) (record {
  rule = h.rule;
  ended = h.ended;
  rising = h.rising;
  passed = h.passed;
  times = h.times;
  latest = h.latest;
  reached = h.reached;
  ahead = h.ahead;
})

-- there is an event
pub represents_shown : {lanes new shown : List LaneValue} {h : History} {t : ℤ} → Turns lanes h t → PassesAll lanes t new → ShowsAll new t shown → MakesEvent lanes t
    → Represents shown (record h { events = h.events ++ t ∷ [] })
represents_shown {lanes} {new} {shown} {h} {t} s p q makes = record {
  clock = t;
  keeps = record { same = sym q.same ∙ (keeps_all s p).same; each = λ k n i e f. let m = partner_back q k n e in keeps_shown m.2.0 ((keeps_all s p).each k m.0 i m.1 f) };
  settled = settled_up_to s;
  coming = comes_after s;
  rising = rising_more h.events t s.represents.rising (λ k u e. let a = (s.represents.each k u e).1 in let b = after_clock s in omega (arith, ints));
  each = λ k u e. elim (pushed_at h.events t k u e) [
    | inl old ↦ ((s.represents.each k u old).0, let a = (s.represents.each k u old).1 in let b = after_clock s in omega (arith, ints))
    | inr last ↦ (subst (IsEvent h.inputs) (sym last.1) (is_event s makes), let a : u ≡ t = last.1 in omega (arith, ints))
  ];
  all = λ u e le. elim (cases_ltz s.represents.clock u) [
    | inl after ↦ subst (Has (h.events ++ t ∷ [])) (sym (none_between s u e.settled.here after le)) (has_last h.events t)
    | inr earlier ↦ has_pushed h.events t u (s.represents.all u e earlier)
  ];
  shows = λ k n e. record {
    none = λ is. absurd (let a = ap (λ (ts : List ℤ). length ts) is in let b = length_push h.events t in omega arith);
    last = λ before' u same i f.
        let m = partner_back q k n e in
        subst (λ (z : ℤ). IsCurrent i z n.current) (same_last h.events before' t u same) (current_is n.current ((keeps_all s p).each k m.0 i m.1 f) m.2.1);
  };
}

-- ---- what `next` returns

pub begin_returned : {lanes : List LaneValue} {h : History} → Represents lanes h → BeginEvents h.inputs h.events
begin_returned s = record {
  rising = s.rising;
  each = λ k t e. (s.each k t e).0;
  first = λ t e g. s.all t e (let a : t ≤ℤ g.1 = g.3 in let b = (s.each g.0 g.1 g.2).1 in omega (arith, ints));
}

-- ---- fewer times wait

count_tail : {X : Type 0} {R : X → X → Type 0} {x y : X} {xs ys : List X} → AreEach R (x ∷ xs) (y ∷ ys) → AreEach R xs ys
count_tail h = record { same = (let a = h.same in omega arith); each = λ k x y e f. h.each (suc k) x y e f }

fewer_here : (l : LaneValue) (t : ℤ) (m : LaneValue) → Passes l t m → length m.waiting ≤ length l.waiting
fewer_here l t m p = elim p [
  | inl q ↦ (let a = ap (λ (ts : List ℤ). length ts) q.0 in omega arith)
  | inr q ↦ (let a = ap (λ (z : LaneValue). length z.waiting) q.1 in omega arith)
]

less_here : (l : LaneValue) (t : ℤ) (m : LaneValue) → Passes l t m → Heads l t → length m.waiting < length l.waiting
less_here l t m p head = elim p [
  | inl q ↦ (let a = ap (λ (ts : List ℤ). length ts) q.0 in omega arith)
  | inr q ↦ absurd (q.0 head)
]

count_fewer : (t : ℤ) (old new : List LaneValue) → PassesAll old t new → waiting_count new ≤ waiting_count old
count_fewer t [] [] p = omega arith
count_fewer t [] (m ∷ ms) p = absurd (let a = p.same in omega arith)
count_fewer t (l ∷ ls) [] p = absurd (let a = p.same in omega arith)
count_fewer t (l ∷ ls) (m ∷ ms) p = let a = fewer_here l t m (p.each 0 l m refl refl) in let b = count_fewer t ls ms (count_tail p) in omega arith

pub count_less : (t : ℤ) (old new : List LaneValue) → PassesAll old t new → SomeOne old (λ (l : LaneValue). Heads l t) → waiting_count new < waiting_count old
count_less t [] new p s = absurd (none-some s.1 s.2)
count_less t (l ∷ ls) [] p s = absurd (let a = p.same in omega arith)
count_less t (l ∷ ls) (m ∷ ms) p (zero, x, e, head) =
    let a = less_here l t m (p.each 0 l m refl refl) (subst (λ (z : LaneValue). Heads z t) (sym (same_Some l x e)) head) in
    let b = count_fewer t ls ms (count_tail p) in
    omega arith
count_less t (l ∷ ls) (m ∷ ms) p (suc k, x, e, head) =
    let a = fewer_here l t m (p.each 0 l m refl refl) in
    let b = count_less t ls ms (count_tail p) (k, x, e, head) in
    omega arith

pub count_shown : (t : ℤ) (old new : List LaneValue) → ShowsAll old t new → waiting_count new ≡ waiting_count old
count_shown t [] [] p = refl
count_shown t [] (m ∷ ms) p = absurd (let a = p.same in omega arith)
count_shown t (l ∷ ls) [] p = absurd (let a = p.same in omega arith)
count_shown t (l ∷ ls) (m ∷ ms) p =
    let a : length m.waiting ≡ length l.waiting = ap (λ (z : LaneValue). length z.waiting) (p.each 0 l m refl refl).0 in
    let b = count_shown t ls ms (count_tail p) in
    omega arith
