-- The small filters of the tests.
use Rattle.std.proofs.Common.{◌≡◌, ℕ, zero, suc, ◌-◌, ◌==◌, ◌||◌, Bool, true, false, List, [], ◌∷◌, ◌++◌, length, take, nat_le, sym, ◌∙◌, ap, refl, arith, eqb-true}
use Rattle.std.specs.Prelude.{if◌then◌else◌}
use Rattle.std.proofs.lemmas.Bool.Decides.{nat_tests}
use Rattle.av_base.specs.declared.shapes.Shape.{Shape}
use Rattle.av_frame.specs.Frames.{FrameValue}
use Rattle.av_frame.specs.Streams.{Stream, ended_stream, after, AllShaped, Lawful, Rises, RisesFrom}
use Rattle.av_frame.specs.StreamLemmas.{stream_eq, after_after}
use Rattle.av_frame_tests.specs.Bools.{or_true}
use Rattle.av_frame_tests.specs.SmallFilters.{first_stream}

apart : (a : Bool) → a ≡ true → a ≡ false → ⊥
apart true e f = cc
apart false e f = cc

shaped_take : (s : Shape) (n : ℕ) (xs : List FrameValue) → AllShaped s xs → AllShaped s (take n xs)
shaped_take s zero xs h = tt
shaped_take s (suc n) [] h = tt
shaped_take s (suc n) (x ∷ xs) h = (h.0, shaped_take s n xs h.1)

rises_take_from : (n : ℕ) (x : FrameValue) (xs : List FrameValue) → RisesFrom x xs → RisesFrom x (take n xs)
rises_take_from zero x xs h = tt
rises_take_from (suc n) x [] h = tt
rises_take_from (suc n) x (y ∷ ys) h = (h.0, rises_take_from n y ys h.1)

rises_take : (n : ℕ) (xs : List FrameValue) → Rises xs → Rises (take n xs)
rises_take zero xs h = tt
rises_take (suc n) [] h = tt
rises_take (suc n) (x ∷ xs) h = rises_take_from n x xs h

pub lawful_take : (s : Shape) (n : ℕ) (xs : List FrameValue) → Lawful s xs → Lawful s (take n xs)
lawful_take s n xs h = record { shaped = shaped_take s n xs h.shaped; rises = rises_take n xs h.rises }

le_all : (n : ℕ) → nat_le 0 n ≡ true
le_all n = grind (arith, nat_tests)

-- of no frames there is the end at once
pub first_none : (n : ℕ) (s : Stream) (b : Bool) → (n == 0) ≡ b → (if b then ended_stream [] else first_stream n s) ≡ first_stream n s
first_none n s true e =
    let z : n ≡ 0 = eqb-true _ _ e in
    rw z (stream_eq _ _ _ _ refl (sym (ap (λ (d : Bool). s.ended || d) (le_all (length s.frames)) ∙ or_true s.ended)))
first_none n s false e = refl

le_both : (m n : ℕ) → nat_le (suc m) (suc n) ≡ nat_le m n
le_both m n = grind (arith, nat_tests)

first_next : (m : ℕ) (x : FrameValue) (s : Stream) → after (x ∷ []) (first_stream m s) ≡ first_stream (suc m) (after (x ∷ []) s)
first_next m x s = stream_eq _ _ _ _ refl (ap (λ (d : Bool). s.ended || d) (sym (le_both m (length s.frames))))

-- one of the first frames comes
pub first_takes : (w : List FrameValue) (x : FrameValue) (n : ℕ) (d : Bool) (s : Stream) → (d || (n == 0)) ≡ false
    → after (w ++ x ∷ []) (if d || (n - 1 == 0) then ended_stream [] else first_stream (n - 1) s) ≡ after w (first_stream n (after (x ∷ []) s))
first_takes w x n true s e = absurd (apart true refl e)
first_takes w x n false s e =
    let n' : n ≡ suc (n - 1) = grind (arith, nat_tests) in
    after_after w (x ∷ []) _
    ∙ (ap (λ (t : Stream). after w (after (x ∷ []) t)) (first_none (n - 1) s (n - 1 == 0) refl)
    ∙ (ap (after w) (first_next (n - 1) x s) ∙ ap (λ (m : ℕ). after w (first_stream m (after (x ∷ []) s))) (sym n')))
