-- The laws of the filter that works by times. They hold in every state, whatever comes.
use Rattle.std.specs.Prelude.{◌≡◌, ℕ, ℤ, ◌<◌, Bool, true, false, ◌||◌, ◌&&◌, ◌⊎◌, not, List, [], ◌∷◌, ◌++◌, refl}
use Rattle.std.specs.Int.Signed.{lt_z}
use Rattle.std.proofs.Common.{ap, ◌∙◌, arith, inl, inr}
use Rattle.av_frame.specs.Frames.{FrameValue}
use Rattle.av_frame.specs.Streams.{Stream, Streams, IsPrefix, Begins, ended_stream}
use Rattle.av_frame.specs.FilterLaws.{FilterLaws}
use Rattle.av_frame.specs.Rules.{RuleLaws, is_empty, all_held}
use Rattle.av_frame.specs.StreamLemmas.{begins_refl, stream_eq, none_is}
use Rattle.av_frame.specs.HeldLaws.{held_laws}
use Rattle.av_frame_tests.specs.Bools.{and_first, and_second, and_not, both_true, or_cases, or_true}
use Rattle.av_frame_tests.specs.Synced.{two_to_one, frames_from, stream_from, has_come, synced, all_come, synced_stream, synced_rule, SyncedValue, synced_kept, synced_finished, synced_rest, synced_over, synced_closes, synced_wants}

-- ---- the frames from a time on, where more frames come

-- some are there, and what comes stands behind them
pub from_some : (t : ℤ) (ys q : List FrameValue) → not (is_empty (frames_from t ys)) ≡ true → frames_from t (ys ++ q) ≡ frames_from t ys ++ q
from_some t [] q e = absurd (cc)
from_some t (y ∷ ys) q e = by (lt_z y.pts t) refl (from_some t ys q)
  where
    by : (b : Bool) → lt_z y.pts t ≡ b → (not (is_empty (frames_from t ys)) ≡ true → frames_from t (ys ++ q) ≡ frames_from t ys ++ q)
        → frames_from t (y ∷ (ys ++ q)) ≡ frames_from t (y ∷ ys) ++ q
    by true p rest = rw p (rest (rw p at e))
    by false p rest = rw p refl

-- what is left at a time is the same of what was left before
pub from_twice : (t : ℤ) (ys q : List FrameValue) → frames_from t (frames_from t ys ++ q) ≡ frames_from t (ys ++ q)
from_twice t [] q = refl
from_twice t (y ∷ ys) q = by (lt_z y.pts t) refl (from_twice t ys q)
  where
    by : (b : Bool) → lt_z y.pts t ≡ b → frames_from t (frames_from t ys ++ q) ≡ frames_from t (ys ++ q) → frames_from t (frames_from t (y ∷ ys) ++ q) ≡ frames_from t (y ∷ (ys ++ q))
    by true p rest = rw p rest
    by false p rest = rw p (rw p refl)

pub some_empty : (x : FrameValue) (xs : List FrameValue) → is_empty (x ∷ xs) ≡ false
some_empty x xs = by (is_empty (x ∷ xs)) refl
  where
    none : x ∷ xs ≡ [] → ⊥
    none k = cc

    by : (b : Bool) → is_empty (x ∷ xs) ≡ b → b ≡ false
    by true e = absurd (none (none_is (x ∷ xs) e))
    by false e = refl

is_some : (xs q : List FrameValue) → not (is_empty xs) ≡ true → not (is_empty (xs ++ q)) ≡ true
is_some [] q e = absurd (cc)
is_some (x ∷ xs) q e = ap not (some_empty x (xs ++ q))

record Goes (t : ℤ) (r s : Stream) : Type 0 where
  begins : Begins (stream_from t r) (stream_from t s)
  come : has_come (stream_from t s) ≡ true

-- where the side input has come as far, what is left of it begins what is left of more
goes_on : (t : ℤ) (r s : Stream) → Begins r s → has_come (stream_from t r) ≡ true → Goes t r s
goes_on t r s b e = by (or_cases r.ended _ e)
  where
    by : (r.ended ≡ true) ⊎ (not (is_empty (frames_from t r.frames)) ≡ true) → Goes t r s
    by (inl d) = rw (b.same d) (record { begins = begins_refl (stream_from t r); come = e })
    by (inr n) =
        let more : frames_from t s.frames ≡ frames_from t r.frames ++ b.front.rest = ap (frames_from t) b.front.whole ∙ from_some t r.frames b.front.rest n in
        record {
          begins = record { front = record { rest = b.front.rest; whole = more }; same = λ d. ap (stream_from t) (b.same d) };
          come = rw more (ap (λ (c : Bool). s.ended || c) (is_some (frames_from t r.frames) b.front.rest n) ∙ or_true s.ended);
        }

-- ---- where the inputs begin others

synced_front : (xs more : List FrameValue) (r s : Stream) → Begins r s → IsPrefix (synced xs r) (synced (xs ++ more) s)
synced_front [] more r s b = record { rest = synced more s; whole = refl }
synced_front (x ∷ xs) more r s b = by (has_come (stream_from x.pts r)) refl (synced_front xs more (stream_from x.pts r) (stream_from x.pts s))
  where
    by : (c : Bool) → has_come (stream_from x.pts r) ≡ c
        → (Begins (stream_from x.pts r) (stream_from x.pts s) → IsPrefix (synced xs (stream_from x.pts r)) (synced (xs ++ more) (stream_from x.pts s)))
        → IsPrefix (synced (x ∷ xs) r) (synced (x ∷ (xs ++ more)) s)
    by true e rest =
        let goes = goes_on x.pts r s b e in
        let p = rest goes.begins in
        rw (e, goes.come) (record { rest = p.rest; whole = ap (λ zs. x ∷ zs) p.whole })
    by false e rest = rw e (record { rest = synced (x ∷ (xs ++ more)) s; whole = refl })

record Same (xs : List FrameValue) (r s : Stream) : Type 0 where
  frames : synced xs s ≡ synced xs r
  come : all_come xs s ≡ true

synced_same : (xs : List FrameValue) (r s : Stream) → Begins r s → all_come xs r ≡ true → Same xs r s
synced_same [] r s b e = record { frames = refl; come = refl }
synced_same (x ∷ xs) r s b e =
    let first = and_first _ _ e in
    let goes = goes_on x.pts r s b first in
    let rest = synced_same xs (stream_from x.pts r) (stream_from x.pts s) goes.begins (and_second _ _ e) in
    record {
      frames = rw (goes.come, first) (ap (λ zs. x ∷ zs) rest.frames);
      come = rw goes.come rest.come;
    }

synced_begins : (r s t u : Stream) → Begins r s → Begins t u → Begins (synced_stream r t) (synced_stream s u)
synced_begins r s t u b c = record {
  front = rw b.front.whole (synced_front r.frames b.front.rest t u c);
  same = λ e.
      let ended = and_first r.ended _ e in
      let all = and_second r.ended _ e in
      let same = synced_same r.frames t u c all in
      rw (b.same ended) (stream_eq _ _ _ _ same.frames (rw (ended, same.come, all) refl));
}

ended_come : (xs : List FrameValue) (s : Stream) → s.ended ≡ true → all_come xs s ≡ true
ended_come [] s e = refl
ended_come (x ∷ xs) s e = both_true _ _ (ap (λ (d : Bool). d || not (is_empty (frames_from x.pts s.frames))) e) (ended_come xs (stream_from x.pts s) e)

both_end : (r s : Stream) → r.ended ≡ true → s.ended ≡ true → (r.ended && all_come r.frames s) ≡ true
both_end r s e f = rw e (ended_come r.frames s f)

pub synced_rule_laws : RuleLaws two_to_one synced_rule
synced_rule_laws = record {
  begins = λ s t p q b o h. synced_begins (s 0) (t 0) (s 1) (t 1) (b 0 (omega arith)) (b 1 (omega arith));
  ends = λ s e o h. both_end (s 0) (s 1) (e 0 (omega arith)) (e 1 (omega arith));
}

-- ---- the laws of the filter

over_is : (v : SyncedValue) (ins : Streams) (o : ℕ) → synced_over v ≡ true → synced_rule (all_held (synced_kept v) (synced_finished v) ins) o ≡ ended_stream []
over_is v ins o e = rw (none_is v.main (and_second v.main_finished _ e), and_first v.main_finished _ e) refl

pub synced_laws : (v : SyncedValue) → FilterLaws two_to_one (synced_rest v) (synced_closes v) (synced_wants v) (λ o. synced_over v)
synced_laws v = held_laws two_to_one synced_rule (synced_kept v) (synced_finished v) (λ _. []) _ _ _ synced_rule_laws (record {
  closed_is = λ i h c. closed (synced_finished v i) (or_cases (synced_finished v i) (synced_over v) c);
  wanted_open = λ i h e. and_not (is_empty (synced_kept v i)) (synced_closes v i) e;
  over_waits = λ o h e. refl;
  over_is = λ o h e ins. over_is v ins o e;
  all_closed = λ e i h. rw (e 0 (omega arith)) (or_true (synced_finished v i));
})
  where
    closed : (d : Bool) → (d ≡ true) ⊎ (synced_over v ≡ true)
        → (d ≡ true) ⊎ ((o : ℕ) → o < 1 → (ins : Streams) → synced_rule (all_held (synced_kept v) (synced_finished v) ins) o ≡ ended_stream [])
    closed d (inl e) = inl e
    closed d (inr e) = inr (λ o h ins. over_is v ins o e)
