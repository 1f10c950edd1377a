-- Facts about streams on which laws of filters rest.
use Rattle.std.specs.Prelude.{◌≡◌, ℕ, ◌==◌, if◌then◌else◌, Bool, true, false, List, [], ◌∷◌, ◌++◌, refl}
use Rattle.std.proofs.Common.{sym, append_assoc, arith, eqb-true}
use Rattle.std.proofs.lemmas.List.{append-nil}
use mathlib.Core.Path.{fun_ext}
use Rattle.av_frame.specs.Frames.{FrameValue}
use Rattle.av_frame.specs.Streams.{Stream, Streams, Begins, at_pad, after}
use Rattle.av_frame.specs.Rules.{is_empty, held}

pub begins_refl : (s : Stream) → Begins s s
begins_refl s = record { front = record { rest = []; whole = sym (append-nil s.frames) }; same = λ e. refl }

pub after_after : (xs ys : List FrameValue) (s : Stream) → after (xs ++ ys) s ≡ after xs (after ys s)
after_after xs ys s = rw append_assoc

pub stream_eq : (xs ys : List FrameValue) (d e : Bool) → xs ≡ ys → d ≡ e → (let s : Stream = record { frames = xs; ended = d } in s) ≡ record { frames = ys; ended = e }
stream_eq xs ys d e p q = rw (p, q)

pub held_ends : (xs : List FrameValue) (d : Bool) (s : Stream) → s.ended ≡ true → (held xs d s).ended ≡ true
held_ends xs true s e = refl
held_ends xs false s e = e

pub none_is : (xs : List FrameValue) → is_empty xs ≡ true → xs ≡ []
none_is [] e = refl
none_is (x ∷ xs) e = absurd (omega (arith, eqb-true _ _ e))

if_twice : (b : Bool) (s t u : Stream) → (if b then t else (if b then s else u)) ≡ (if b then t else u)
if_twice true s t u = refl
if_twice false s t u = refl

-- a stream that is replaced twice
pub at_pad_twice : (ins : Streams) (i : ℕ) (s t : Stream) → at_pad (at_pad ins i s) i t ≡ at_pad ins i t
at_pad_twice ins i s t = fun_ext (λ j. if_twice (j == i) s t (ins j))
