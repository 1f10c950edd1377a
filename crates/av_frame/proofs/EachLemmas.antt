-- Frames made of the first frame that was offered.
use Rattle.std.proofs.Common.{◌≡◌, ℕ, zero, suc, ◌+◌, ◌-◌, ◌<◌, Bool, false, List, [], ◌∷◌, ◌++◌, length, Some, sym, ◌∙◌, ap, arith, refl}
use Rattle.std.specs.Prelude.{slice_get}
use Rattle.std.proofs.lemmas.List.FromFn.{length-map-range_with_len, get_or-map-range_with_len}
use Rattle.std.proofs.lemmas.List.{get_or-replicate}
use Rattle.std.proofs.lemmas.Option.{slice_get-get_or}
use Rattle.std.specs.Prelude.{replicate, map}
use Rattle.av_base.specs.declared.shapes.Shape.{Shape}
use Rattle.av_frame.specs.Frames.{FrameValue}
use Rattle.av_frame.specs.Streams.{Stream, after, AllShaped, Lawful, Rises, RisesFrom}
use Rattle.av_frame.specs.Rules.{later_row, queue, held, each_stream, SameTimes}
use Rattle.av_frame.specs.StreamLemmas.{after_after}

pub length-later : (f : ℕ → FrameValue → FrameValue) (n : ℕ) (x : FrameValue) → 0 < n → length (later_row f n x) + 1 ≡ n
length-later f n x h = let long = length-map-range_with_len (λ o. f o x) 1 (n - 1) in omega (arith, long)

pub row_at : (f : ℕ → FrameValue → FrameValue) (n : ℕ) (x : FrameValue) (o : ℕ) → o < n → slice_get (f 0 x ∷ later_row f n x) o ≡ Some (f o x)
row_at f n x zero h = refl
row_at f n x (suc o) h =
    let long = length-map-range_with_len (λ o. f o x) 1 (n - 1) in
    let within : o < n - 1 = omega arith in
    let k : o < length (later_row f n x) = omega (arith, long) in
    slice_get-get_or (later_row f n x) o x k ∙ ap (λ y. Some y) (get_or-map-range_with_len (λ o. f o x) 1 (n - 1) o (suc o) x within (omega arith))

-- what is made of the first frame that was offered waits
pub made_first : (v w : List FrameValue) (f g : FrameValue → FrameValue) (xs : List FrameValue) (x : FrameValue) (d : Bool) (s : Stream)
    → g ≡ f → v ≡ w ++ f x ∷ []
    → after v (each_stream g (held xs d s)) ≡ after w (each_stream f (held (x ∷ xs) d s))
made_first v w f g xs x d s e p = rw (e, p) (after_after w (f x ∷ []) (each_stream f (held xs d s)))

pub not_dry : (v w : List FrameValue) (y : FrameValue) → v ≡ w ++ y ∷ [] → v ≡ [] → ⊥
not_dry v [] y e f = none (sym f ∙ e)
  where
    none : (let no : List FrameValue = [] in no) ≡ y ∷ [] → ⊥
    none k = cc
not_dry v (z ∷ w) y e f = none (sym f ∙ e)
  where
    none : (let no : List FrameValue = [] in no) ≡ z ∷ (w ++ y ∷ []) → ⊥
    none k = cc

-- a frame of the shape comes behind the others
pub shaped_push : (shape : Shape) (xs : List FrameValue) (x : FrameValue) → AllShaped shape xs → x.shape ≡ shape → AllShaped shape (xs ++ x ∷ [])
shaped_push shape [] x h e = (e, tt)
shaped_push shape (y ∷ ys) x h e = (h.0, shaped_push shape ys x h.1 e)

rises_map_from : (f : FrameValue → FrameValue) → ((x : FrameValue) → SameTimes x (f x)) → (x : FrameValue) (xs : List FrameValue) → RisesFrom x xs → RisesFrom (f x) (map f xs)
rises_map_from f k x [] h = tt
rises_map_from f k x (y ∷ ys) h = (rw ((k x).pts, (k y).pts) h.0, rises_map_from f k y ys h.1)

rises_map : (f : FrameValue → FrameValue) → ((x : FrameValue) → SameTimes x (f x)) → (xs : List FrameValue) → Rises xs → Rises (map f xs)
rises_map f k [] h = tt
rises_map f k (x ∷ xs) h = rises_map_from f k x xs h

shaped_map : (f : FrameValue → FrameValue) (s t : Shape) → ((x : FrameValue) → x.shape ≡ s → (f x).shape ≡ t) → (xs : List FrameValue) → AllShaped s xs → AllShaped t (map f xs)
shaped_map f s t k [] h = tt
shaped_map f s t k (x ∷ xs) h = (k x h.0, shaped_map f s t k xs h.1)

-- what keeps the times and gives each frame the shape keeps a stream lawful
pub lawful_map : (f : FrameValue → FrameValue) (s t : Shape) → ((x : FrameValue) → SameTimes x (f x)) → ((x : FrameValue) → x.shape ≡ s → (f x).shape ≡ t)
    → (xs : List FrameValue) → Lawful s xs → Lawful t (map f xs)
lawful_map f s t k l xs h = record { shaped = shaped_map f s t l xs h.shaped; rises = rises_map f k xs h.rises }

-- nothing waits and nothing was offered
pub starts : (lists : List (List FrameValue)) (n : ℕ) (f : FrameValue → FrameValue) (s : Stream) (o : ℕ) → lists ≡ replicate n [] → o < n
    → after (queue lists o) (each_stream f (held [] false s)) ≡ each_stream f s
starts lists n f s o e h = rw (e, get_or-replicate {A = List FrameValue} n o [] [] h) refl
