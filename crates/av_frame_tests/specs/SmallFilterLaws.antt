-- The laws of the small filters.
use Rattle.std.specs.Prelude.{◌≡◌, ℕ, zero, suc, ◌+◌, ◌<◌, ◌≤◌, ◌==◌, Bool, true, false, ◌||◌, nat_le, if◌then◌else◌, List, [], ◌∷◌, ◌++◌, take, length, refl}
use Rattle.std.proofs.Common.{ap, sym, ◌∙◌, arith, ⊎_elim}
use Rattle.std.proofs.lemmas.List.{length-append, take-append-le}
use Rattle.std.proofs.lemmas.Bool.Decides.{nat_tests}
use Rattle.av_frame.specs.Frames.{FrameValue}
use Rattle.av_frame.specs.Streams.{Stream, IsPrefix}
use Rattle.av_base.specs.declared.shapes.Shape.{Shape}
use Rattle.av_frame.specs.Rules.{StreamLaws, SameTimes}
use Rattle.av_frame.specs.StreamLemmas.{stream_eq}
use Rattle.av_frame_tests.specs.Bools.{or_cases, or_true}
use Rattle.av_frame_tests.specs.SmallFilters.{first_stream, card, card_made}

le_more : (m n k : ℕ) → nat_le m n ≡ true → nat_le m (n + k) ≡ true
le_more m n k e = grind (arith, nat_tests)

le-from_test : (m n : ℕ) → nat_le m n ≡ true → m ≤ n
le-from_test m n e = grind (arith, nat_tests)

le_append : (m : ℕ) (xs r : List FrameValue) → nat_le m (length xs) ≡ true → nat_le m (length (xs ++ r)) ≡ true
le_append m xs r e = rw (length-append xs r) (le_more m (length xs) (length r) e)

take_prefix : (n : ℕ) (xs ys : List FrameValue) → IsPrefix (take n xs) (take n (xs ++ ys))
take_prefix zero xs ys = record { rest = []; whole = refl }
take_prefix (suc n) [] ys = record { rest = take (suc n) ys; whole = refl }
take_prefix (suc n) (x ∷ xs) ys = let p = take_prefix n xs ys in record { rest = p.rest; whole = ap (λ zs. x ∷ zs) p.whole }

first_full : (n : ℕ) (s t : Stream) → IsPrefix s.frames t.frames → nat_le n (length s.frames) ≡ true → first_stream n t ≡ first_stream n s
first_full n s t p e =
    let more : nat_le n (length t.frames) ≡ true = rw p.whole (le_append n s.frames p.rest e) in
    stream_eq _ _ _ _
    (ap (take n) p.whole ∙ take-append-le n s.frames p.rest (le-from_test _ _ e))
    (rw (e, more) (or_true t.ended ∙ sym (or_true s.ended)))

or_first : (a b : Bool) → a ≡ true → (a || b) ≡ true
or_first true b e = refl
or_first false b e = cc

-- the laws of the first n frames
pub first_laws : (n : ℕ) → StreamLaws (first_stream n)
first_laws n = record {
  begins = λ s t p q b. record {
    front = rw b.front.whole (take_prefix n s.frames b.front.rest);
    same = λ e. ⊎_elim (λ k. ap (first_stream n) (b.same k)) (λ k. first_full n s t b.front k) (or_cases s.ended _ e);
  };
  ends = λ s e. or_first s.ended _ e;
}

pub card_some : 0 < 2
card_some = omega arith

times_if : (b : Bool) (x : FrameValue) → SameTimes x (if b then card x else x)
times_if true x = record { pts = refl; duration = refl }
times_if false x = record { pts = refl; duration = refl }

pub card_keeps : (o : ℕ) (x : FrameValue) → SameTimes x (card_made o x)
card_keeps o x = times_if (o == 0) x

shape_if : (b : Bool) (x : FrameValue) → (if b then card x else x).shape ≡ x.shape
shape_if true x = refl
shape_if false x = refl

pub card_shaped : (o : ℕ) (x : FrameValue) (s : Shape) → x.shape ≡ s → (card_made o x).shape ≡ s
card_shaped o x s e = shape_if (o == 0) x ∙ e
