-- The laws of filters of one input and one output that are a function on streams.
use Rattle.std.specs.Prelude.{◌≡◌, ℕ, ◌<◌, ◌&&◌, not, if◌then◌else◌, Bool, true, false, List, [], ◌∷◌, ◌++◌, refl}
use Rattle.std.proofs.Common.{◌∙◌, ap, arith}
use Rattle.av_frame.specs.Frames.{FrameValue}
use Rattle.av_frame.specs.Streams.{Stream, Streams, ended_stream, at_pad, after, coming}
use Rattle.av_frame.specs.FilterLaws.{FilterLaws, one_to}
use Rattle.av_frame.specs.Rules.{StreamLaws, RuleLaws, is_empty, waiting_then}
use Rattle.av_frame.specs.StreamLemmas.{after_after, none_is}

one_ends : (d : Bool) (f : Stream → Stream) → StreamLaws f → (s : Stream) → s.ended ≡ true → (if d then ended_stream [] else f s).ended ≡ true
one_ends true f l s e = refl
one_ends false f l s e = l.ends s e

one_settled : (xs : List FrameValue) (d : Bool) (f : Stream → Stream) (s t : Stream) → d ≡ true
    → after xs (if d then ended_stream [] else f s) ≡ after xs (if d then ended_stream [] else f t)
one_settled xs true f s t e = refl
one_settled xs false f s t e = cc

one_wanted : (d e : Bool) → (not d && e) ≡ true → d ≡ false
one_wanted true e h = cc
one_wanted false e h = refl

one_over : (xs : List FrameValue) (d : Bool) (s : Stream) → (d && is_empty xs) ≡ true → after xs (if d then ended_stream [] else s) ≡ ended_stream []
one_over xs true s e = rw (none_is xs e) refl
one_over xs false s e = cc

one_closed : (d e : Bool) → (d && e) ≡ true → d ≡ true
one_closed true e h = refl
one_closed false e h = h

-- the laws of such a function, as one on the streams of all inputs
pub one_rule_laws : (f : Stream → Stream) → StreamLaws f → RuleLaws (one_to 1) (λ ins o. f (ins 0))
one_rule_laws f l = record {
  begins = λ s t p q b o h. l.begins (s 0) (t 0) (p 0 (omega arith)) (q 0 (omega arith)) (b 0 (omega arith));
  ends = λ s e o h. l.ends (s 0) (e 0 (omega arith));
}

-- the laws of such a filter
pub one_laws : (xs : List FrameValue) (d : Bool) (f : Stream → Stream) → StreamLaws f
    → FilterLaws (one_to 1) (waiting_then xs d f) (λ i. d) (λ i. not d && is_empty xs) (λ o. d && is_empty xs)
one_laws xs d f l = record {
  ends = λ s e o h. one_ends d f l (s 0) (e 0 (omega arith));
  settled = λ i h e ins s o k. one_settled xs d f (at_pad ins i s 0) (ins 0) e;
  wanted_open = λ i h e. one_wanted d (is_empty xs) e;
  over_is = λ o h e ins. one_over xs d (f (ins 0)) e;
  all_closed = λ e i h. one_closed d (is_empty xs) (e 0 (omega arith));
}

-- a frame comes: what is to be shown of the function alone
pub one_takes : (v w : List FrameValue) (c d : Bool) (g f : Stream → Stream) (i : ℕ) (x : FrameValue) (ins : Streams) (o : ℕ) → i < 1 → d ≡ false
    → ((s : Stream) → after v (if c then ended_stream [] else g s) ≡ after w (f (after (x ∷ []) s)))
    → waiting_then v c g ins o ≡ waiting_then w d f (coming i x ins) o
one_takes v w c d g f i x ins o h e step =
    let z : i ≡ 0 = omega arith in
    rw (z, e) (step (ins 0))

-- a frame comes that makes one frame wait
pub one_gives : (v w : List FrameValue) (y : FrameValue) (c d : Bool) (g f : Stream → Stream) (i : ℕ) (x : FrameValue) (ins : Streams) (o : ℕ)
    → i < 1 → d ≡ false → c ≡ false → v ≡ w ++ y ∷ []
    → ((s : Stream) → after (y ∷ []) (g s) ≡ f (after (x ∷ []) s))
    → waiting_then v c g ins o ≡ waiting_then w d f (coming i x ins) o
one_gives v w y c d g f i x ins o h e k p step =
    let z : i ≡ 0 = omega arith in
    rw (z, e, k, p) (after_after w (y ∷ []) (g (ins 0)) ∙ ap (after w) (step (ins 0)))

-- a frame comes that makes none wait
pub one_drops : (w : List FrameValue) (c d : Bool) (g f : Stream → Stream) (i : ℕ) (x : FrameValue) (ins : Streams) (o : ℕ)
    → i < 1 → d ≡ false → c ≡ false
    → ((s : Stream) → g s ≡ f (after (x ∷ []) s))
    → waiting_then w c g ins o ≡ waiting_then w d f (coming i x ins) o
one_drops w c d g f i x ins o h e k step =
    let z : i ≡ 0 = omega arith in
    rw (z, e, k) (ap (after w) (step (ins 0)))
