-- The laws of filters that keep what was offered on each of their inputs and what waits on each output.
use Rattle.std.specs.Prelude.{◌≡◌, ◌≢◌, ℕ, ◌<◌, ◌==◌, ◌⊎◌, if◌then◌else◌, Bool, true, false, List, [], ◌∷◌, ◌++◌, refl}
use Rattle.std.proofs.Common.{sym, ◌∙◌, ap, arith, eqb-true, inl, inr}
use mathlib.Core.Path.{fun_ext}
use Rattle.av_frame.specs.Frames.{FrameValue}
use Rattle.av_frame.specs.Streams.{Stream, Streams, ended_stream, at_pad, after, coming, ending}
use Rattle.av_frame.specs.FilterLaws.{Pads, FilterLaws}
use Rattle.av_frame.specs.Rules.{RuleLaws, HeldTests, held, all_held, held_rest}
use Rattle.av_frame.specs.StreamLemmas.{held_ends, after_after}

finished_at : (kept : List FrameValue) (d : Bool) (s t : Stream) → d ≡ true → held kept d s ≡ held kept d t
finished_at kept true s t e = refl
finished_at kept false s t e = absurd (cc)

-- what comes on a finished input isn't had
pub held_settled : (kept : ℕ → List FrameValue) (finished : ℕ → Bool) (i : ℕ) → finished i ≡ true → (ins : Streams) (s : Stream) → all_held kept finished (at_pad ins i s) ≡ all_held kept finished ins
held_settled kept finished i e ins s = fun_ext (λ j. at j (j == i) refl)
  where
    at : (j : ℕ) (b : Bool) → (j == i) ≡ b → held (kept j) (finished j) (if b then s else ins j) ≡ held (kept j) (finished j) (ins j)
    at j true p = finished_at (kept j) (finished j) s (ins j) (ap finished (eqb-true _ _ p) ∙ e)
    at j false p = refl

-- the laws of such a filter
pub held_laws : (p : Pads) (rule : Streams → Streams) (kept : ℕ → List FrameValue) (finished : ℕ → Bool) (waiting : ℕ → List FrameValue) (closes wants over : ℕ → Bool)
    → RuleLaws p rule → HeldTests p rule kept finished waiting closes wants over
    → FilterLaws p (held_rest rule kept finished waiting) closes wants over
held_laws p rule kept finished waiting closes wants over l t = record {
  ends = λ s e o h. l.ends (all_held kept finished s) (λ i k. held_ends (kept i) (finished i) (s i) (e i k)) o h;
  settled = λ i k c ins s o h. ap (after (waiting o)) (settled i ins s o h (t.closed_is i k c));
  wanted_open = t.wanted_open;
  over_is = λ o h e ins. rw (t.over_waits o h e) (t.over_is o h e ins);
  all_closed = t.all_closed;
}
  where
    settled : (i : ℕ) (ins : Streams) (s : Stream) (o : ℕ) → o < p.outputs
        → (finished i ≡ true) ⊎ ((o : ℕ) → o < p.outputs → (ins : Streams) → rule (all_held kept finished ins) o ≡ ended_stream [])
        → rule (all_held kept finished (at_pad ins i s)) o ≡ rule (all_held kept finished ins) o
    settled i ins s o h (inl e) = ap (λ (all : Streams). rule all o) (held_settled kept finished i e ins s)
    settled i ins s o h (inr n) = n o h (at_pad ins i s) ∙ sym (n o h ins)

held_more : (xs : List FrameValue) (d : Bool) (x : FrameValue) (s : Stream) → d ≡ false → held (xs ++ x ∷ []) d s ≡ held xs d (after (x ∷ []) s)
held_more xs true x s e = absurd (cc)
held_more xs false x s e = after_after xs (x ∷ []) s

-- a frame is offered on input i, and kept there
pub held_offered : (old new : ℕ → List FrameValue) (finished : ℕ → Bool) (i : ℕ) (x : FrameValue) (ins : Streams)
    → finished i ≡ false → new i ≡ old i ++ x ∷ [] → ((j : ℕ) → j ≢ i → new j ≡ old j)
    → all_held new finished ins ≡ all_held old finished (coming i x ins)
held_offered old new finished i x ins e p q = fun_ext (λ j. at j (j == i) refl)
  where
    no : (j : ℕ) → (j == i) ≡ false → j ≢ i
    no j e f = grind arith

    at : (j : ℕ) (b : Bool) → (j == i) ≡ b → held (new j) (finished j) (ins j) ≡ held (old j) (finished j) (if b then after (x ∷ []) (ins i) else ins j)
    at j true k = let z : j ≡ i = eqb-true _ _ k in rw (z, p) (held_more (old i) (finished i) x (ins i) e)
    at j false k = rw (q j (no j k)) refl

held_end : (xs : List FrameValue) (d : Bool) (s : Stream) → held xs true s ≡ held xs d (ended_stream [])
held_end xs true s = refl
held_end xs false s = refl

-- input i is finished
pub held_finished : (kept : ℕ → List FrameValue) (old new : ℕ → Bool) (i : ℕ) (ins : Streams)
    → new i ≡ true → ((j : ℕ) → j ≢ i → new j ≡ old j)
    → all_held kept new ins ≡ all_held kept old (ending i ins)
held_finished kept old new i ins p q = fun_ext (λ j. at j (j == i) refl)
  where
    no : (j : ℕ) → (j == i) ≡ false → j ≢ i
    no j e f = grind arith

    at : (j : ℕ) (b : Bool) → (j == i) ≡ b → held (kept j) (new j) (ins j) ≡ held (kept j) (old j) (if b then ended_stream [] else ins j)
    at j true k = let z : j ≡ i = eqb-true _ _ k in rw (z, p) (held_end (kept i) (old i) (ins i))
    at j false k = rw (q j (no j k)) refl

-- what is still to be given where a frame was offered on input i, and is kept there
pub rest_offered : (rule : Streams → Streams) (old new : ℕ → List FrameValue) (finished : ℕ → Bool) (waiting : ℕ → List FrameValue) (i : ℕ) (x : FrameValue) (ins : Streams) (o : ℕ)
    → finished i ≡ false → new i ≡ old i ++ x ∷ [] → ((j : ℕ) → j ≢ i → new j ≡ old j)
    → held_rest rule new finished waiting ins o ≡ held_rest rule old finished waiting (coming i x ins) o
rest_offered rule old new finished waiting i x ins o e p q = ap (λ (all : Streams). after (waiting o) (rule all o)) (held_offered old new finished i x ins e p q)

-- what is still to be given where input i was finished
pub rest_finished : (rule : Streams → Streams) (kept : ℕ → List FrameValue) (old new : ℕ → Bool) (waiting : ℕ → List FrameValue) (i : ℕ) (ins : Streams) (o : ℕ)
    → new i ≡ true → ((j : ℕ) → j ≢ i → new j ≡ old j)
    → held_rest rule kept new waiting ins o ≡ held_rest rule kept old waiting (ending i ins) o
rest_finished rule kept old new waiting i ins o p q = ap (λ (all : Streams). after (waiting o) (rule all o)) (held_finished kept old new i ins p q)

-- what a rule gives of a new filter, which keeps nothing
pub rest_new : (rule : Streams → Streams) (ins : Streams) (o : ℕ) → held_rest rule (λ _. []) (λ _. false) (λ _. []) ins o ≡ rule ins o
rest_new rule ins o = refl
