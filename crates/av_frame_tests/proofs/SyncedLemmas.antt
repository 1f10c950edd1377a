-- The filter that works by times: one frame after another.
use Rattle.std.proofs.Common.{◌≡◌, ◌<◌, ℕ, zero, suc, ℤ, ◌==◌, ◌||◌, ◌&&◌, Bool, true, false, not, List, [], ◌∷◌, ◌++◌, sym, ◌∙◌, ap, refl, arith}
use Rattle.std.specs.Prelude.{if◌then◌else◌}
use Rattle.std.proofs.lemmas.List.{append-nil}
use Rattle.av_base.specs.declared.shapes.Shape.{Shape}
use Rattle.av_frame.specs.Frames.{FrameValue}
use Rattle.av_frame.specs.Streams.{Stream, Streams, open_stream, ended_stream, after, AllShaped, Lawful, Rises, RisesFrom}
use Rattle.av_frame.specs.Rules.{is_empty, held}
use Rattle.av_frame.specs.StreamLemmas.{stream_eq}
use Rattle.av_frame_tests.specs.Bools.{and_not, or_true}
use Rattle.av_frame_tests.specs.Synced.{frames_from, stream_from, has_come, synced, all_come, synced_stream, SyncedValue, synced_rest, left_side, is_ready}
use Rattle.av_frame_tests.specs.SyncedLaws.{from_some, from_twice, some_empty}

-- ---- what is given keeps the frames' shape and order

shaped_synced : (s : Shape) (xs : List FrameValue) (t : Stream) → AllShaped s xs → AllShaped s (synced xs t)
shaped_synced s [] t h = tt
shaped_synced s (x ∷ xs) t h = by (has_come (stream_from x.pts t)) refl (shaped_synced s xs (stream_from x.pts t) h.1)
  where
    by : (c : Bool) → has_come (stream_from x.pts t) ≡ c → AllShaped s (synced xs (stream_from x.pts t)) → AllShaped s (synced (x ∷ xs) t)
    by true e rest = rw e (h.0, rest)
    by false e rest = rw e tt

rises_synced_from : (w : FrameValue) (xs : List FrameValue) (t : Stream) → RisesFrom w xs → RisesFrom w (synced xs t)
rises_synced_from w [] t h = tt
rises_synced_from w (x ∷ xs) t h = by (has_come (stream_from x.pts t)) refl (rises_synced_from x xs (stream_from x.pts t) h.1)
  where
    by : (c : Bool) → has_come (stream_from x.pts t) ≡ c → RisesFrom x (synced xs (stream_from x.pts t)) → RisesFrom w (synced (x ∷ xs) t)
    by true e rest = rw e (h.0, rest)
    by false e rest = rw e tt

pub rises_synced : (xs : List FrameValue) (t : Stream) → Rises xs → Rises (synced xs t)
rises_synced [] t h = tt
rises_synced (x ∷ xs) t h = by (has_come (stream_from x.pts t)) refl
  where
    by : (c : Bool) → has_come (stream_from x.pts t) ≡ c → Rises (synced (x ∷ xs) t)
    by true e = rw e (rises_synced_from x xs (stream_from x.pts t) h)
    by false e = rw e tt

pub lawful_synced : (s : Shape) (xs : List FrameValue) (t : Stream) → Lawful s xs → Lawful s (synced xs t)
lawful_synced s xs t h = record { shaped = shaped_synced s xs t h.shaped; rises = rises_synced xs t h.rises }

-- ---- the side input at the time of the next frame

-- what was dropped before the time makes no difference there
from_held : (t : ℤ) (ys : List FrameValue) (d : Bool) (s : Stream) → stream_from t (held (frames_from t ys) d s) ≡ stream_from t (held ys d s)
from_held t ys d s = stream_eq _ _ _ _ (from_twice t ys (if d then ended_stream [] else s).frames) refl

-- what is given by what is left of the side input at the time of the next frame
abbrev by_left : FrameValue → List FrameValue → Bool → Stream → Stream
by_left x xs ended left = record { frames = if has_come left then x ∷ synced xs left else []; ended = ended && (has_come left && all_come xs left) }

pub dropped : (x : FrameValue) (xs ys : List FrameValue) (d : Bool) (m s : Stream) → synced_stream (after (x ∷ xs) m) (held ys d s) ≡ synced_stream (after (x ∷ xs) m) (held (frames_from x.pts ys) d s)
dropped x xs ys d m s = ap (by_left x (xs ++ m.frames) m.ended) (sym (from_held x.pts ys d s))

come_held : (t : ℤ) (ys : List FrameValue) (d : Bool) (s : Stream) → (is_empty (frames_from t ys) && not d) ≡ false → stream_from t (held ys d s) ≡ held (frames_from t ys) d s
come_held t ys true s e = by (is_empty (frames_from t ys)) refl
  where
    by : (b : Bool) → is_empty (frames_from t ys) ≡ b → stream_from t (held ys true s) ≡ held (frames_from t ys) true s
    by true n = stream_eq _ _ _ _ (ap (frames_from t) (append-nil ys) ∙ sym (append-nil (frames_from t ys))) refl
    by false n = stream_eq _ _ _ _ (from_some t ys [] (ap not n)) refl
come_held t ys false s e = stream_eq _ _ _ _ (from_some t ys s.frames (turned (is_empty (frames_from t ys)) e)) refl
  where
    turned : (b : Bool) → (b && true) ≡ false → not b ≡ true
    turned true e = cc
    turned false e = refl

held_come : (zs : List FrameValue) (d : Bool) (s : Stream) → (is_empty zs && not d) ≡ false → has_come (held zs d s) ≡ true
held_come zs true s e = refl
held_come [] false s e = cc
held_come (z ∷ zs) false s e = ap (λ (b : Bool). s.ended || not b) (some_empty z (zs ++ s.frames)) ∙ or_true s.ended

-- the next frame of the main input is given
pub given_next : (x : FrameValue) (xs ys : List FrameValue) (d : Bool) (m s : Stream) → (is_empty (frames_from x.pts ys) && not d) ≡ false
    → synced_stream (after (x ∷ xs) m) (held ys d s) ≡ after (x ∷ []) (synced_stream (after xs m) (held (frames_from x.pts ys) d s))
given_next x xs ys d m s e =
    let left = held (frames_from x.pts ys) d s in
    let come = held_come (frames_from x.pts ys) d s e in
    ap (by_left x (xs ++ m.frames) m.ended) (come_held x.pts ys d s e)
    ∙ stream_eq _ _ _ _
    (ap (λ (b : Bool). if b then x ∷ synced (xs ++ m.frames) left else []) come)
    (ap (λ (b : Bool). m.ended && (b && all_come (xs ++ m.frames) left)) come)

-- ---- the state

-- the side input of a state that was advanced
pub rest_advanced : (v w : SyncedValue) (ins : Streams) (o : ℕ) → w ≡ record v { side = left_side v.main v.side } → synced_rest w ins o ≡ synced_rest v ins o
rest_advanced v w ins o e = rw e (by v.main refl)
  where
    by : (xs : List FrameValue) → v.main ≡ xs
        → synced_stream (held v.main v.main_finished (ins 0)) (held (left_side v.main v.side) v.side_finished (ins 1)) ≡ synced_stream (held v.main v.main_finished (ins 0)) (held v.side v.side_finished (ins 1))
    by [] p = rw p refl
    by (x ∷ xs) p = rw p (sym (dropped x xs v.side v.side_finished (if v.main_finished then ended_stream [] else ins 0) (ins 1)))

-- the state that is left where the next frame was given
pub rest_given : (v w : SyncedValue) (x : FrameValue) (xs : List FrameValue) (ins : Streams) (o : ℕ)
    → v.main ≡ x ∷ xs → w ≡ record v { main = xs; side = left_side v.main v.side } → is_ready (let a : SyncedValue = record v { side = left_side v.main v.side } in a) ≡ true
    → (b : Bool) → b ≡ true → synced_rest v ins o ≡ after (if b then x ∷ [] else []) (synced_rest w ins o)
rest_given v w x xs ins o p q r b e =
    let left = frames_from x.pts v.side in
    let ready : (is_empty left && not v.side_finished) ≡ false = and_not _ _ (rw p at r) in
    rw (e, q, p) (given_next x xs v.side v.side_finished (if v.main_finished then ended_stream [] else ins 0) (ins 1) ready)

pub none_given : (b : Bool) (s : Stream) → s ≡ after (if b then [] else []) s
none_given true s = refl
none_given false s = refl

pub only_output : (o n : ℕ) → o < 1 → n < 1 → (o == n) ≡ true
only_output zero zero h k = refl
only_output zero (suc n) h k = absurd (omega arith)
only_output (suc o) n h k = absurd (omega arith)

and_false : (a : Bool) → (a && false) ≡ false
and_false true = refl
and_false false = refl

-- the side input has no frame at the time or after it
pub dry : (x : FrameValue) (xs : List FrameValue) (m : Stream) → synced_stream (after (x ∷ xs) m) (held [] false (open_stream [])) ≡ open_stream []
dry x xs m = stream_eq _ _ _ _ refl (and_false m.ended)
