-- What is offered of what was taken.
use mathlib.Core.List.{IsPrefix}
use Rattle.av_frame.specs.Frames.{FrameValue}
use Rattle.av_frame.specs.Streams.{Stream, Begins}
use Rattle.std.proofs.Common.{Bool, true, false, ◌⊎◌, inl, inr, refl, append_assoc, ◌≡◌, ◌-◌, List, [], ◌∷◌, ◌++◌, length, take, sym, ◌∙◌, ap, append-nil, Option, Some, None, arith}
use Rattle.std.specs.Prelude.{option_to_list}
use Rattle.link_ports.specs.Parcels.{front_of}
use Rattle.std.proofs.lemmas.List.{length-append}
use Rattle.std.proofs.Math.Seq.{take-length, take-append_seam}

-- if no frame waits, all that was taken is offered
pub front_none : {A : Type 0} (xs : List A) → front_of xs (option_to_list None) ≡ xs
front_none xs = let e : length xs - 0 ≡ length xs = omega arith in ap (λ n. take n xs) e ∙ take-length xs

pub front_push : {A : Type 0} (xs : List A) (x : A) → front_of (xs ++ x ∷ []) (x ∷ []) ≡ xs
front_push xs x = let e : length (xs ++ x ∷ []) - 1 ≡ length xs = omega (arith, length-append xs (x ∷ [])) in ap (λ n. take n (xs ++ x ∷ [])) e ∙ take-append_seam xs (x ∷ [])

pub drawn_some : {A : Type 0} (old new : List A) (p q : Option A) (x : A) → p ≡ None → q ≡ Some x → new ≡ old ++ x ∷ []
    → front_of new (option_to_list q) ≡ front_of old (option_to_list p)
drawn_some old new p q x e f g = rw (e, f, g) (front_push old x ∙ sym (front_none old))

pub drawn_none : {A : Type 0} (xs ys : List A) (p q : Option A) → xs ≡ ys → p ≡ q → front_of xs (option_to_list p) ≡ front_of ys (option_to_list q)
drawn_none xs ys p q e f = cc

pub told_pending : {A : Type 0} (xs : List A) (q : Option A) → q ≡ None → xs ≡ front_of xs (option_to_list q) ++ option_to_list q
told_pending xs q e = rw (e, append-nil) (sym (front_none xs))

abbrev stream : List FrameValue → Bool → Stream
stream xs b = record { frames = xs; ended = b }

-- what was offered, after more was taken
pub begins_taken : (old new : List FrameValue) (p : Option FrameValue) (f : Bool) → p ≡ None → IsPrefix old new → (f ≡ true → new ≡ old)
    → Begins (stream (front_of old (option_to_list p)) f) (stream (front_of new (option_to_list p)) f)
begins_taken old new p f e q same = rw (e, front_none old, front_none new) record {
  front = record { rest = q.0; whole = sym q.1 };
  same = λ t. ap (λ (l : List FrameValue). stream l f) (same t);
}

-- what was offered, after all that waited was taken
pub begins_all : (took queued now : List FrameValue) (p q : Option FrameValue) (f : Bool) → took ≡ front_of took (option_to_list p) ++ option_to_list p → now ≡ took ++ queued → q ≡ None
    → (f ≡ true → (queued ≡ []) × (p ≡ None))
    → Begins (stream (front_of took (option_to_list p)) f) (stream (front_of now (option_to_list q)) f)
begins_all took queued now p q f parts e n same =
    let front = front_of took (option_to_list p) in
    let all : now ≡ front ++ (option_to_list p ++ queued) = e ∙ ap (λ (l : List FrameValue). l ++ queued) parts ∙ append_assoc front (option_to_list p) queued in
    rw (n, front_none now) record {
      front = record { rest = option_to_list p ++ queued; whole = all };
      same = λ t. (let k = same t in
          ap (λ (l : List FrameValue). stream l f)
          (all ∙ ap (λ (l : List FrameValue). front ++ (option_to_list p ++ l)) k.0 ∙ ap (λ (o : Option FrameValue). front ++ (option_to_list o ++ [])) k.1 ∙ append-nil front));
    }

pub bool_or : (b : Bool) → (b ≡ true) ⊎ (b ≡ false)
bool_or true = inl refl
bool_or false = inr refl
