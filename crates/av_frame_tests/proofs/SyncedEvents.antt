-- The function of the filter that works by times, by the events of its two inputs.
use Rattle.std.proofs.Common.{◌≡◌, ◌≤◌, ◌<ℤ◌, ◌≤ℤ◌, ◌⊎◌, ◌||◌, ◌&&◌, ℕ, zero, suc, ℤ, Bool, true, false, not, List, [], ◌∷◌, Some, sym, ◌∙◌, ap, refl, subst, arith, inl, inr}
use Rattle.std.specs.Prelude.{if◌then◌else◌}
use Rattle.std.specs.List.{slice_get}
use Rattle.std.specs.Int.Signed.{lt_z}
use Rattle.std.proofs.lemmas.Int.{ints}
use Rattle.std.proofs.lemmas.Option.{same_Some, none-some}
use Rattle.av_frame.specs.Frames.{FrameValue}
use Rattle.av_frame.specs.Streams.{Stream, Rises, RisesFrom}
use Rattle.av_frame.specs.Rules.{is_empty}
use Rattle.frame_sync.specs.declared.rules.Before.TheVariants as before
use Rattle.frame_sync.specs.declared.rules.After.TheVariants as after
use Rattle.frame_sync.specs.Framesync.{Input, SomeOne, EachOne, IsRising, HasAt, HasFrom, HasUpTo, IsSettled, IsEvent, IsOver, HasEnded, NeverBegins, Stops, AllOver}
use Rattle.frame_sync.proofs.SlowLemmas.{is_less, is_from}
use Rattle.av_frame_tests.specs.Bools.{and_first, and_second, or_true}
use Rattle.av_frame_tests.specs.Synced.{frames_from, stream_from, has_come, synced, all_come, synced_stream, main_rule, side_rule, times_of, input_of, two_inputs, AreShown}
use Rattle.av_frame_tests.specs.SyncedLaws.{some_empty}
use Rattle.av_frame_tests.proofs.SyncedLemmas.{rises_synced}

-- ---- how far the side input has come

-- it has ended, or has a frame at the time or after it
abbrev Comes : Stream → ℤ → Type 0
Comes side t = (side.ended ≡ true) ⊎ SomeOne (times_of side.frames) (λ u. t ≤ℤ u)

tests_less : (a b : ℤ) → a <ℤ b → lt_z a b ≡ true
tests_less a b h = grind (arith, ints)

not_less : (a b : ℤ) → lt_z a b ≡ true → b ≤ℤ a → ⊥
not_less a b e h = let lt = is_less a b e in omega (arith, ints)

from_has : (t : ℤ) (ys : List FrameValue) → not (is_empty (frames_from t ys)) ≡ true → SomeOne (times_of ys) (λ u. t ≤ℤ u)
from_has t [] e = absurd (cc)
from_has t (y ∷ ys) e = by (lt_z y.pts t) refl (from_has t ys)
  where
    by : (b : Bool) → lt_z y.pts t ≡ b → (not (is_empty (frames_from t ys)) ≡ true → SomeOne (times_of ys) (λ u. t ≤ℤ u)) → SomeOne (times_of (y ∷ ys)) (λ u. t ≤ℤ u)
    by true p rest = let h = rest (rw p at e) in (suc h.0, h.1, h.2, h.3)
    by false p rest = (0, y.pts, refl, is_from y.pts t p)

from_is : (t : ℤ) (ys : List FrameValue) (k : ℕ) (u : ℤ) → slice_get (times_of ys) k ≡ Some u → t ≤ℤ u → not (is_empty (frames_from t ys)) ≡ true
from_is t [] k u e h = absurd (none-some u e)
from_is t (y ∷ ys) zero u e h = by (lt_z y.pts t) refl
  where
    by : (b : Bool) → lt_z y.pts t ≡ b → not (is_empty (frames_from t (y ∷ ys))) ≡ true
    by true p = absurd (not_less y.pts t p (subst (λ (v : ℤ). t ≤ℤ v) (sym (same_Some y.pts u e)) h))
    by false p = rw p (ap not (some_empty y ys))
from_is t (y ∷ ys) (suc k) u e h = by (lt_z y.pts t) refl (from_is t ys k u e h)
  where
    by : (b : Bool) → lt_z y.pts t ≡ b → not (is_empty (frames_from t ys)) ≡ true → not (is_empty (frames_from t (y ∷ ys))) ≡ true
    by true p rest = rw p rest
    by false p rest = rw p (ap not (some_empty y ys))

come_is : (t : ℤ) (s : Stream) → has_come (stream_from t s) ≡ true → Comes s t
come_is t s e = by s.ended refl
  where
    by : (d : Bool) → s.ended ≡ d → Comes s t
    by true p = inl p
    by false p = inr (from_has t s.frames (rw p at e))

is_come : (t : ℤ) (s : Stream) → Comes s t → has_come (stream_from t s) ≡ true
is_come t s (inl e) = rw e refl
is_come t s (inr h) = ap (λ (b : Bool). s.ended || b) (from_is t s.frames h.0 h.1 h.2 h.3) ∙ or_true s.ended

comes_before : (s : Stream) (t u : ℤ) → t ≤ℤ u → Comes s u → Comes s t
comes_before s t u h (inl e) = inl e
comes_before s t u h (inr c) = let le = c.3 in inr (c.0, c.1, c.2, omega (arith, ints))

-- ---- what is left at a later time is the same of what was left before

from_later : (u t : ℤ) (ys : List FrameValue) → u ≤ℤ t → frames_from t (frames_from u ys) ≡ frames_from t ys
from_later u t [] h = refl
from_later u t (y ∷ ys) h = by (lt_z y.pts u) refl (from_later u t ys h)
  where
    by : (b : Bool) → lt_z y.pts u ≡ b → frames_from t (frames_from u ys) ≡ frames_from t ys → frames_from t (frames_from u (y ∷ ys)) ≡ frames_from t (y ∷ ys)
    by true p rest =
        let lt = is_less y.pts u p in
        let before : y.pts <ℤ t = omega (arith, ints) in
        rw (p, tests_less y.pts t before) rest
    by false p rest = rw p refl

stream_later : (u t : ℤ) (s : Stream) → u ≤ℤ t → stream_from t (stream_from u s) ≡ stream_from t s
stream_later u t s h = ap (λ (ys : List FrameValue). let r : Stream = record { frames = ys; ended = s.ended } in r) (from_later u t s.frames h)

le_of : (a b : ℤ) → a <ℤ b → a ≤ℤ b
le_of a b h = omega (arith, ints)

synced_later : (w : FrameValue) (xs : List FrameValue) (s : Stream) → RisesFrom w xs → synced xs (stream_from w.pts s) ≡ synced xs s
synced_later w [] s h = refl
synced_later w (x ∷ xs) s h = ap (λ (z : Stream). if has_come z then x ∷ synced xs z else []) (stream_later w.pts x.pts s (le_of w.pts x.pts h.0))

come_later : (w : FrameValue) (xs : List FrameValue) (s : Stream) → RisesFrom w xs → all_come xs (stream_from w.pts s) ≡ all_come xs s
come_later w [] s h = refl
come_later w (x ∷ xs) s h = ap (λ (z : Stream). has_come z && all_come xs z) (stream_later w.pts x.pts s (le_of w.pts x.pts h.0))

-- ---- times that rise

rises_rest : (x : FrameValue) (xs : List FrameValue) → RisesFrom x xs → Rises xs
rises_rest x [] h = tt
rises_rest x (y ∷ ys) h = h.1

later_than : (x : FrameValue) (xs : List FrameValue) → RisesFrom x xs → (k : ℕ) (u : ℤ) → slice_get (times_of xs) k ≡ Some u → x.pts <ℤ u
later_than x [] h k u e = absurd (none-some u e)
later_than x (y ∷ ys) h zero u e = subst (λ (v : ℤ). x.pts <ℤ v) (same_Some y.pts u e) h.0
later_than x (y ∷ ys) h (suc k) u e = let a = h.0 in let b = later_than y ys h.1 k u e in omega (arith, ints)

rising_times : (xs : List FrameValue) → Rises xs → IsRising (times_of xs)
rising_times [] r m n t u lt e f = absurd (none-some t e)
rising_times (x ∷ xs) r zero zero t u lt e f = absurd (omega arith)
rising_times (x ∷ xs) r zero (suc n) t u lt e f = subst (λ (v : ℤ). v <ℤ u) (same_Some x.pts t e) (later_than x xs r n u f)
rising_times (x ∷ xs) r (suc m) zero t u lt e f = absurd (omega arith)
rising_times (x ∷ xs) r (suc m) (suc n) t u lt e f = rising_times xs (rises_rest x xs r) m n t u (omega arith) e f

first_least : (x : FrameValue) (xs : List FrameValue) → RisesFrom x xs → (k : ℕ) (u : ℤ) → slice_get (times_of (x ∷ xs)) k ≡ Some u → x.pts ≤ℤ u
first_least x xs h zero u e = let same : x.pts ≡ u = same_Some x.pts u e in omega (arith, ints)
first_least x xs h (suc k) u e = le_of x.pts u (later_than x xs h k u e)

time_at : (xs : List FrameValue) (k : ℕ) (x : FrameValue) → slice_get xs k ≡ Some x → slice_get (times_of xs) k ≡ Some x.pts
time_at [] k x e = absurd (none-some x e)
time_at (y ∷ ys) zero x e = ap (λ (z : FrameValue). Some z.pts) (same_Some y x e)
time_at (y ∷ ys) (suc k) x e = time_at ys k x e

-- ---- which frames are given

synced_main : (xs : List FrameValue) (s : Stream) (k : ℕ) (y : FrameValue) → slice_get (synced xs s) k ≡ Some y → slice_get xs k ≡ Some y
synced_main [] s k y e = absurd (none-some y e)
synced_main (x ∷ xs) s k y e = by (has_come (stream_from x.pts s)) refl (rest k (λ j. synced_main xs (stream_from x.pts s) j y))
  where
    rest : (k : ℕ) → ((j : ℕ) → slice_get (synced xs (stream_from x.pts s)) j ≡ Some y → slice_get xs j ≡ Some y)
        → slice_get (x ∷ synced xs (stream_from x.pts s)) k ≡ Some y → slice_get (x ∷ xs) k ≡ Some y
    rest zero later e = e
    rest (suc k) later e = later k e

    by : (c : Bool) → has_come (stream_from x.pts s) ≡ c → (slice_get (x ∷ synced xs (stream_from x.pts s)) k ≡ Some y → slice_get (x ∷ xs) k ≡ Some y) → slice_get (x ∷ xs) k ≡ Some y
    by true p there = there (rw p at e)
    by false p there = absurd (none-some y (rw p at e))

synced_times : (xs : List FrameValue) (s : Stream) (k : ℕ) (u : ℤ) → slice_get (times_of (synced xs s)) k ≡ Some u → slice_get (times_of xs) k ≡ Some u
synced_times [] s k u e = absurd (none-some u e)
synced_times (x ∷ xs) s k u e = by (has_come (stream_from x.pts s)) refl (rest k (λ j. synced_times xs (stream_from x.pts s) j u))
  where
    rest : (k : ℕ) → ((j : ℕ) → slice_get (times_of (synced xs (stream_from x.pts s))) j ≡ Some u → slice_get (times_of xs) j ≡ Some u)
        → slice_get (times_of (x ∷ synced xs (stream_from x.pts s))) k ≡ Some u → slice_get (times_of (x ∷ xs)) k ≡ Some u
    rest zero later e = e
    rest (suc k) later e = later k e

    by : (c : Bool) → has_come (stream_from x.pts s) ≡ c → (slice_get (times_of (x ∷ synced xs (stream_from x.pts s))) k ≡ Some u → slice_get (times_of (x ∷ xs)) k ≡ Some u)
        → slice_get (times_of (x ∷ xs)) k ≡ Some u
    by true p there = there (rw p at e)
    by false p there = absurd (none-some u (rw p at e))

synced_at : (xs : List FrameValue) (s : Stream) → Rises xs → (k : ℕ) (u : ℤ) → slice_get (times_of (synced xs s)) k ≡ Some u → Comes s u
synced_at [] s r k u e = absurd (none-some u e)
synced_at (x ∷ xs) s r k u e = by (has_come (stream_from x.pts s)) refl (rest k (λ j. synced_at xs s (rises_rest x xs r) j u))
  where
    rest : (k : ℕ) → ((j : ℕ) → slice_get (times_of (synced xs s)) j ≡ Some u → Comes s u)
        → has_come (stream_from x.pts s) ≡ true → slice_get (times_of (x ∷ synced xs (stream_from x.pts s))) k ≡ Some u → Comes s u
    rest zero later p e = subst (Comes s) (same_Some x.pts u e) (come_is x.pts s p)
    rest (suc k) later p e = later k (subst (λ (zs : List FrameValue). slice_get (times_of zs) k ≡ Some u) (synced_later x xs s r) e)

    by : (c : Bool) → has_come (stream_from x.pts s) ≡ c → (has_come (stream_from x.pts s) ≡ true → slice_get (times_of (x ∷ synced xs (stream_from x.pts s))) k ≡ Some u → Comes s u) → Comes s u
    by true p there = there p (rw p at e)
    by false p there = absurd (none-some u (rw p at e))

synced_has : (xs : List FrameValue) (s : Stream) → Rises xs → (k : ℕ) (u : ℤ) → slice_get (times_of xs) k ≡ Some u → Comes s u → slice_get (times_of (synced xs s)) k ≡ Some u
synced_has [] s r k u e c = absurd (none-some u e)
synced_has (x ∷ xs) s r k u e c = rw (is_come x.pts s (comes_before s x.pts u (first_least x xs r k u e) c)) (rest k (λ j f. synced_has xs s (rises_rest x xs r) j u f c) e)
  where
    rest : (k : ℕ) → ((j : ℕ) → slice_get (times_of xs) j ≡ Some u → slice_get (times_of (synced xs s)) j ≡ Some u) → slice_get (times_of (x ∷ xs)) k ≡ Some u → slice_get (times_of (x ∷ synced xs (stream_from x.pts s))) k ≡ Some u
    rest zero later e = e
    rest (suc k) later e = subst (λ (zs : List FrameValue). slice_get (times_of zs) k ≡ Some u) (sym (synced_later x xs s r)) (later k e)

all_at : (xs : List FrameValue) (s : Stream) → Rises xs → all_come xs s ≡ true → (k : ℕ) (u : ℤ) → slice_get (times_of xs) k ≡ Some u → Comes s u
all_at [] s r a k u e = absurd (none-some u e)
all_at (x ∷ xs) s r a zero u e = subst (Comes s) (same_Some x.pts u e) (come_is x.pts s (and_first _ _ a))
all_at (x ∷ xs) s r a (suc k) u e = all_at xs s (rises_rest x xs r) (sym (come_later x xs s r) ∙ and_second _ _ a) k u e

come_all : (xs : List FrameValue) (s : Stream) → Rises xs → ((k : ℕ) (u : ℤ) → slice_get (times_of xs) k ≡ Some u → Comes s u) → all_come xs s ≡ true
come_all [] s r h = refl
come_all (x ∷ xs) s r h = rw (is_come x.pts s (h 0 x.pts refl)) (come_later x xs s r ∙ come_all xs s (rises_rest x xs r) (λ k u e. h (suc k) u e))

-- ---- the events of the two inputs

each_two : {X : Type 0} (P : X → Type 0) (a b : X) → P a → P b → EachOne (a ∷ b ∷ []) P
each_two P a b p q zero x e = subst P (same_Some a x e) p
each_two P a b p q (suc zero) x e = subst P (same_Some b x e) q
each_two P a b p q (suc (suc k)) x e = absurd (none-some x e)

some_two : {X : Type 0} (P : X → Type 0) (a b : X) → SomeOne (a ∷ b ∷ []) P → P a ⊎ P b
some_two P a b (zero, x, e, p) = inl (subst P (sym (same_Some a x e)) p)
some_two P a b (suc zero, x, e, p) = inr (subst P (sym (same_Some b x e)) p)
some_two P a b (suc (suc k), x, e, p) = absurd (none-some x e)

null_stops : before.Null ≡ before.Stop → ⊥
null_stops e = cc

infinity_stops : after.Infinity ≡ after.Stop → ⊥
infinity_stops e = cc

stop_nulls : after.Stop ≡ after.Null → ⊥
stop_nulls e = cc

from_at : (i : Input) (u : ℤ) → HasAt i u → HasFrom i u
from_at i u h = let same : h.1 ≡ u = h.3 in (h.0, h.1, h.2, omega (arith, ints))

up_to_at : (i : Input) (u : ℤ) → HasAt i u → HasUpTo i u
up_to_at i u h = let same : h.1 ≡ u = h.3 in (h.0, h.1, h.2, omega (arith, ints))

ahead_is : (t : Stream) (u : ℤ) → Comes t u → t.ended ≡ false → HasFrom (input_of side_rule t) u
ahead_is t u (inl e) f = absurd (both t.ended e f)
  where
    both : (b : Bool) → b ≡ true → b ≡ false → ⊥
    both true e f = cc
    both false e f = cc
ahead_is t u (inr h) f = h

is_ahead : (t : Stream) (u : ℤ) → (t.ended ≡ false → HasFrom (input_of side_rule t) u) → Comes t u
is_ahead t u h = by t.ended refl
  where
    by : (d : Bool) → t.ended ≡ d → Comes t u
    by true e = inl e
    by false e = inr (h e)

settled_is : (s t : Stream) (u : ℤ) → HasAt (input_of main_rule s) u → Comes t u → IsSettled (two_inputs s t) u
settled_is s t u h c = record {
  here = (0, input_of main_rule s, refl, h);
  ahead = each_two (λ (i : Input). i.ended ≡ false → HasFrom i u) (input_of main_rule s) (input_of side_rule t) (λ _. from_at (input_of main_rule s) u h) (ahead_is t u c);
}

event_is : (s t : Stream) (u : ℤ) → HasAt (input_of main_rule s) u → Comes t u → IsEvent (two_inputs s t) u
event_is s t u h c =
    let main = input_of main_rule s in
    let side = input_of side_rule t in
    record {
      settled = settled_is s t u h c;
      level = 1;
      is_level = record {
        reached = (0, main, refl, (from_at main u h, refl));
        greatest = each_two (λ (i : Input). HasFrom i u → i.rule.sync ≤ 1) main side (λ _. omega arith) (λ _. omega arith);
      };
      above_0 = omega arith;
      meets = (0, main, refl, (h, refl));
      begun = each_two (λ (i : Input). i.rule.before ≡ before.Stop → HasUpTo i u) main side (λ _. up_to_at main u h) (λ e. absurd (null_stops e));
      lasting = each_two (λ (i : Input). i.rule.after ≡ after.Stop → HasFrom i u) main side (λ _. from_at main u h) (λ e. absurd (infinity_stops e));
    }

event_at : (s t : Stream) (u : ℤ) → IsEvent (two_inputs s t) u → HasAt (input_of main_rule s) u × Comes t u
event_at s t u e = (
  elim (some_two (λ (i : Input). HasAt i u × (i.rule.sync ≡ e.level)) (input_of main_rule s) (input_of side_rule t) e.meets) [
    | inl main ↦ main.0
    | inr side ↦ absurd (let zero_is : 0 ≡ e.level = side.1 in let above = e.above_0 in omega arith)
  ],
  is_ahead t u (e.settled.ahead 1 (input_of side_rule t) refl),
)

no_times : (xs : List FrameValue) → times_of xs ≡ [] → xs ≡ []
no_times [] e = refl
no_times (x ∷ xs) e = absurd (cc)

over_ended : (s t : Stream) → Rises s.frames → IsOver (two_inputs s t) (input_of main_rule s) → (s.ended && all_come s.frames t) ≡ true
over_ended s t r o = rw o.ended (come_all s.frames t r (λ k u e. is_ahead t u ((o.settled k u e).ahead 1 (input_of side_rule t) refl)))

ends_at : (s t : Stream) → Rises s.frames → HasEnded (two_inputs s t) → (s.ended && all_come s.frames t) ≡ true
ends_at s t r (NeverBegins h) = elim (some_two (λ (i : Input). (i.rule.before ≡ before.Stop) × (i.ended ≡ true) × (i.times ≡ [])) (input_of main_rule s) (input_of side_rule t) h) [
  | inl main ↦ (let ended : s.ended ≡ true = main.1 in rw (ended, no_times s.frames main.2) refl)
  | inr side ↦ absurd (null_stops side.0)
]
ends_at s t r (Stops h) = elim (some_two (λ (i : Input). (i.rule.after ≡ after.Stop) × IsOver (two_inputs s t) i) (input_of main_rule s) (input_of side_rule t) h) [
  | inl main ↦ over_ended s t r main.1
  | inr side ↦ absurd (infinity_stops side.0)
]
ends_at s t r (AllOver h) = over_ended s t r (h 0 (input_of main_rule s) refl (omega arith))

-- the output has a frame at each event, and no other
pub shown : (s t : Stream) → Rises s.frames → AreShown s t (synced_stream s t)
shown s t r =
    let main = input_of main_rule s in
    record {
      events = record {
        rising = rising_times (synced s.frames t) (rises_synced s.frames t r);
        each = λ k u e. event_is s t u (k, u, synced_times s.frames t k u e, refl) (synced_at s.frames t r k u e);
        all = λ u e.
            let h = event_at s t u e in
            let same : h.0.1 ≡ u = h.0.3 in
            (h.0.0, h.0.1, synced_has s.frames t r h.0.0 h.0.1 h.0.2 (subst (Comes t) (sym same) h.1), same);
      };
      current = λ k x e.
          let at = synced_main s.frames t k x e in
          let here = time_at s.frames k x at in (
            k,
            (
              record { here = (x.pts, here, omega (arith, ints)); later = λ j u lt f. rising_times s.frames r k j x.pts u lt here f },
              λ gone. stop_nulls gone.rule,
            ),
            at,
          );
      ended = λ e.
          let over : IsOver (two_inputs s t) main = record {
            ended = and_first s.ended _ e;
            settled = λ k u f. settled_is s t u (k, u, f, refl) (all_at s.frames t r (and_second s.ended _ e) k u f);
          } in
          Stops (0, main, refl, (refl, over));
      ends = ends_at s t r;
    }
