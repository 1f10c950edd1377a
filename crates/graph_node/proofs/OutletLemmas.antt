-- What was given, by what was sent and what is held.
use Rattle.std.proofs.Common.{◌≡◌, Bool, true, List, [], ◌∷◌, ◌++◌, refl, append-nil, Option, Some, None}
use Rattle.std.specs.Prelude.{option_to_list}
use Rattle.av_frame.specs.Frames.{FrameValue}
use Rattle.av_frame.specs.Streams.{Stream, ended_stream}
use Rattle.filter_history.specs.Histories.{with_frame}

abbrev stream : List FrameValue → Bool → Stream
stream xs b = record { frames = xs; ended = b }

-- by the parts: what was sent, what is held, and whether it ended
abbrev of : List FrameValue → Option FrameValue → Bool → Stream
of xs h e = stream (xs ++ option_to_list h) e

pub given_is : (xs ys : List FrameValue) (h k : Option FrameValue) (e f : Bool) → ys ≡ xs → k ≡ h → f ≡ e → of ys k f ≡ of xs h e
given_is xs ys h k e f p q r = cc

pub unheld_is : (xs ys : List FrameValue) (h k : Option FrameValue) (e f : Bool) (x : FrameValue) → ys ≡ xs ++ x ∷ [] → h ≡ Some x → k ≡ None → f ≡ e → of ys k f ≡ of xs h e
unheld_is xs ys h k e f x p q r s = rw (p, q, r, s, append-nil) refl

pub reheld_is : (xs : List FrameValue) (h k : Option FrameValue) (e : Bool) (x y : FrameValue) → h ≡ Some x → k ≡ Some y → y ≡ x → of xs k e ≡ of xs h e
reheld_is xs h k e x y p q r = rw (p, q, r) refl

pub sent_is : (xs ys : List FrameValue) (h : Option FrameValue) (e f : Bool) (x : FrameValue) → ys ≡ xs ++ x ∷ [] → h ≡ None → f ≡ e → of ys h f ≡ with_frame (of xs h e) x
sent_is xs ys h e f x p q s = rw (p, q, s, append-nil, append-nil) refl

pub held_is : (xs : List FrameValue) (h k : Option FrameValue) (e : Bool) (x : FrameValue) → h ≡ None → k ≡ Some x → of xs k e ≡ with_frame (of xs h e) x
held_is xs h k e x p q = rw (p, q, append-nil) refl

pub end_is : (xs ys : List FrameValue) (h : Option FrameValue) (e f : Bool) → ys ≡ xs ++ [] → f ≡ true → of ys h f ≡ ended_stream (of xs h e).frames
end_is xs ys h e f p q = rw (p, q, append-nil) refl
