-- Steps at one port, as steps of the histories.
use Rattle.std.proofs.Common.{◌≡◌, ◌⊎◌, inl, inr, ℕ, ℤ, ◌<◌, ◌==◌, Bool, true, false, List, [], ◌∷◌, ◌++◌, refl, sym, ◌∙◌, ap, subst, append-nil, append_assoc, Option, Some, None, arith}
use Rattle.std.specs.Prelude.{option_to_list, if◌then◌else◌}
use Rattle.av_frame.specs.Frames.{FrameValue}
use Rattle.av_frame.specs.Streams.{Stream, Streams, at_pad, ended_stream, after, coming, ending, AllRise, RisesFrom, Rises, Lawful, AllShaped}
use Rattle.filter_history.specs.Histories.{History, with_frame, Stands}
use Rattle.av_frame.specs.FilterLaws.{Pads}
use Rattle.av_frame.specs.StreamLemmas.{at_pad_twice, stream_eq}
use Rattle.filter_history.proofs.HistoryLemmas.{stands_offered, stands_finished, stands_given, stands_end, stands_same}
use Rattle.graph_node.specs.Times.{IsPast, last_pts, last_from}
use Rattle.graph_node.specs.Ports.{Blocked, Drawn, closing}
use Rattle.link_ports.specs.Parcels.{front_of}
use Rattle.graph_node.specs.Laws.{with_in, with_out, Told}
use Rattle.graph_node.proofs.InletLemmas.{front_none}
use Rattle.std.proofs.lemmas.Option.{none-some}
use Rattle.av_base.specs.declared.shapes.Shape.{Shape}
use Rattle.link_ports.specs.Ends.{received}
use Rattle.graph_node.specs.declared.inlet.Inlet.{Inlet}

-- ---- the last pts

pub last_push : (xs : List FrameValue) (x : FrameValue) → last_pts (xs ++ x ∷ []) ≡ Some x.pts
last_push [] x = refl
last_push (y ∷ ys) x = ap Some (from y ys)
  where
    from : (y : FrameValue) (ys : List FrameValue) → last_from y (ys ++ x ∷ []) ≡ x.pts
    from y [] = refl
    from y (z ∷ zs) = from z zs

pub past_last : (xs ys : List FrameValue) (x : FrameValue) → Rises (xs ++ x ∷ ys) → IsPast (last_pts xs) x.pts
past_last [] ys x r = tt
past_last (y ∷ zs) ys x r = from y zs r
  where
    from : (y : FrameValue) (zs : List FrameValue) → RisesFrom y (zs ++ x ∷ ys) → IsPast (Some (last_from y zs)) x.pts
    from y [] r = r.0
    from y (z ∷ zs) r = from z zs r.1

-- ---- the frame that waits

pub told_is : {A : Type 0} (xs : List A) (p q : Option A) (x : A) → p ≡ Some x → q ≡ None → xs ≡ front_of xs (option_to_list p) ++ option_to_list p
    → front_of xs (option_to_list q) ≡ front_of xs (option_to_list p) ++ x ∷ []
told_is xs p q x e f g = rw f (front_none xs ∙ g ∙ ap (λ (r : Option _). front_of xs (option_to_list p) ++ option_to_list r) e)

pub told_last : (xs : List FrameValue) (p q : Option FrameValue) (x : FrameValue) (l : Option ℤ) → l ≡ Some x.pts → p ≡ Some x → q ≡ None → xs ≡ front_of xs (option_to_list p) ++ option_to_list p
    → l ≡ last_pts (front_of xs (option_to_list q))
told_last xs p q x l k e f g = k ∙ sym (last_push (front_of xs (option_to_list p)) x) ∙ ap last_pts (sym (told_is xs p q x e f g))

-- ---- all that arrived was offered

pub blocked_same : (a b : Inlet) → b.pending ≡ a.pending → b.last ≡ a.last → b.shape ≡ a.shape → Blocked a → Blocked b
blocked_same a b e f s k y h i j = k y (sym e ∙ h) (i ∙ s) (subst (λ (l : Option ℤ). IsPast l y.pts) f j)

shaped_at : (s : Shape) (xs ys : List FrameValue) (x : FrameValue) → AllShaped s (xs ++ x ∷ ys) → x.shape ≡ s
shaped_at s [] ys x h = h.0
shaped_at s (z ∷ zs) ys x h = shaped_at s zs ys x h.1

none_or_some : {A : Type 0} (p : Option A) → (p ≡ None) ⊎ ((y : A) × (p ≡ Some y))
none_or_some None = inl refl
none_or_some (Some y) = inr (y, refl)

pub drawn_is : (x : Inlet) → closing x ≡ false → Blocked x → (x.pending ≡ None → x.port.queued ≡ []) → (x.pending ≡ None → x.port.queued ≡ [] → x.port.end_received ≡ x.finished) → Drawn x
drawn_is x going b q e lawful =
    let items = received x.port in
    let took = x.port.taken in
    elim (none_or_some x.pending) [
      | inl n ↦
          let dry = q n in
          let all : items ≡ took = ap (λ (r : List FrameValue). took ++ r) dry ∙ append-nil took in
          let told : took ≡ front_of took (option_to_list x.pending) = x.pending_is ∙ ap (λ (r : Option FrameValue). front_of took (option_to_list x.pending) ++ option_to_list r) n ∙ append-nil _ in
          stream_eq items (front_of took (option_to_list x.pending)) x.port.end_received x.finished (all ∙ told) (e n dry)
      | inr s ↦
          let front = front_of took (option_to_list x.pending) in
          let whole : items ≡ front ++ s.0 ∷ x.port.queued
          = ap (λ (r : List FrameValue). r ++ x.port.queued) (x.pending_is ∙ ap (λ (r : Option FrameValue). front ++ option_to_list r) s.1)
          ∙ append_assoc front (s.0 ∷ []) x.port.queued in
          let l : Lawful x.shape (front ++ s.0 ∷ x.port.queued) = subst (λ (r : List FrameValue). Lawful x.shape r) whole lawful in
          absurd (b s.0 s.1 (shaped_at x.shape front x.port.queued s.0 l.shaped)
          (subst (λ (r : Option ℤ). IsPast r s.0.pts) (sym (x.last_is going)) (past_last front x.port.queued s.0 l.rises)))
    ]

-- ---- histories at one port

if_self : (n : ℕ) (s t : Stream) (b : Bool) → (n == n) ≡ b → (if b then s else t) ≡ s
if_self n s t true e = refl
if_self n s t false e = absurd (no n e)
  where
    no : (n : ℕ) → (n == n) ≡ false → ⊥
    no n e = grind arith

pub at_self : (all : Streams) (i : ℕ) (s : Stream) → at_pad all i s i ≡ s
at_self all i s = if_self i s (all i) (i == i) refl

pub again_in : (h : History) (i : ℕ) (s t : Stream) → with_in (with_in h i s) i t ≡ with_in h i t
again_in h i s t = ap (λ (z : Streams). let r : History = record { ins = z; outs = h.outs } in r) (at_pad_twice h.ins i s t)

pub again_out : (h : History) (o : ℕ) (s t : Stream) → with_out (with_out h o s) o t ≡ with_out h o t
again_out h o s t = ap (λ (z : Streams). let r : History = record { ins = h.ins; outs = z } in r) (at_pad_twice h.outs o s t)

pub one_offered : (p : Pads) (whole old new : Streams → Streams) (closes closes' over over' : ℕ → Bool) (h : History) (i : ℕ) (x : FrameValue) (s : Stream) → s.ended ≡ false
    → ((ins : Streams) → AllRise p.inputs (coming i x ins) → (o : ℕ) → o < p.outputs → new ins o ≡ old (coming i x ins) o)
    → ((j : ℕ) → closes j ≡ true → closes' j ≡ true)
    → ((o : ℕ) → over o ≡ true → over' o ≡ true)
    → Stands p whole old closes over (with_in h i s) → Stands p whole new closes' over' (with_in h i (with_frame s x))
one_offered p whole old new closes closes' over over' h i x s e step shut keep k =
    let same : with_in (with_in h i s) i (with_frame (at_pad h.ins i s i) x) ≡ with_in h i (with_frame s x)
    = again_in h i s (with_frame (at_pad h.ins i s i) x) ∙ ap (λ (z : Stream). with_in h i (with_frame z x)) (at_self h.ins i s) in
    subst (λ (z : History). Stands p whole new closes' over' z) same
    (stands_offered p whole old new closes closes' over over' (with_in h i s) i x k (ap (λ (z : Stream). z.ended) (at_self h.ins i s) ∙ e) step shut keep)

pub one_finished : (p : Pads) (whole old new : Streams → Streams) (closes closes' over over' : ℕ → Bool) (h : History) (i : ℕ) (s : Stream) → s.ended ≡ false
    → ((ins : Streams) (o : ℕ) → o < p.outputs → new ins o ≡ old (ending i ins) o)
    → ((j : ℕ) → closes j ≡ true → closes' j ≡ true) → closes' i ≡ true
    → ((o : ℕ) → over o ≡ true → over' o ≡ true)
    → Stands p whole old closes over (with_in h i s) → Stands p whole new closes' over' (with_in h i (ended_stream s.frames))
one_finished p whole old new closes closes' over over' h i s e step shut now keep k =
    let same : with_in (with_in h i s) i (ended_stream (at_pad h.ins i s i).frames) ≡ with_in h i (ended_stream s.frames)
    = again_in h i s (ended_stream (at_pad h.ins i s i).frames) ∙ ap (λ (z : Stream). with_in h i (ended_stream z.frames)) (at_self h.ins i s) in
    subst (λ (z : History). Stands p whole new closes' over' z) same
    (stands_finished p whole old new closes closes' over over' (with_in h i s) i k (ap (λ (z : Stream). z.ended) (at_self h.ins i s) ∙ e) step shut now keep)

pub one_kept : (p : Pads) (whole old new : Streams → Streams) (closes closes' over over' : ℕ → Bool) (h : History)
    → ((ins : Streams) (o : ℕ) → new ins o ≡ old ins o)
    → ((j : ℕ) → closes j ≡ true → closes' j ≡ true)
    → ((o : ℕ) → over o ≡ true → over' o ≡ true)
    → Stands p whole old closes over h → Stands p whole new closes' over' h
one_kept p whole old new closes closes' over over' h step shut keep k = record {
  is = λ ins r q o l. k.is ins r q o l ∙ ap (streams_joined (h.outs o)) (sym (step ins o));
  closed_is = λ j l d. shut j (k.closed_is j l d);
  over_is = λ o l d. keep o (k.over_is o l d);
}
  where
    streams_joined : Stream → Stream → Stream
    streams_joined s t = if s.ended then s else after s.frames t

pub one_given : (p : Pads) (whole old new : Streams → Streams) (closes closes' over over' : ℕ → Bool) (h : History) (o : ℕ) (x : FrameValue) (s : Stream) → o < p.outputs
    → (over o ≡ true → (ins : Streams) → old ins o ≡ ended_stream [])
    → ((ins : Streams) → AllRise p.inputs ins → (q : ℕ) → q < p.outputs → old ins q ≡ after (if q == o then x ∷ [] else []) (new ins q))
    → ((j : ℕ) → closes j ≡ true → closes' j ≡ true)
    → ((q : ℕ) → over q ≡ true → over' q ≡ true)
    → Stands p whole old closes over (with_out h o s) → Stands p whole new closes' over' (with_out h o (with_frame s x))
one_given p whole old new closes closes' over over' h o x s l none step shut keep k =
    let same : with_out (with_out h o s) o (with_frame (at_pad h.outs o s o) x) ≡ with_out h o (with_frame s x)
    = again_out h o s (with_frame (at_pad h.outs o s o) x) ∙ ap (λ (z : Stream). with_out h o (with_frame z x)) (at_self h.outs o s) in
    subst (λ (z : History). Stands p whole new closes' over' z) same (stands_given p whole old new closes closes' over over' (with_out h o s) o x k l none step shut keep)

pub one_given_as : (p : Pads) (whole old new : Streams → Streams) (closes closes' over over' : ℕ → Bool) (h : History) (o : ℕ) (x : FrameValue) (zs : List FrameValue) (s t : Stream) → zs ≡ x ∷ [] → t ≡ with_frame s x → o < p.outputs
    → (over o ≡ true → (ins : Streams) → old ins o ≡ ended_stream [])
    → ((ins : Streams) → AllRise p.inputs ins → (q : ℕ) → q < p.outputs → old ins q ≡ after (if q == o then zs else []) (new ins q))
    → ((j : ℕ) → closes j ≡ true → closes' j ≡ true)
    → ((q : ℕ) → over q ≡ true → over' q ≡ true)
    → Stands p whole old closes over (with_out h o s) → Stands p whole new closes' over' (with_out h o t)
one_given_as p whole old new closes closes' over over' h o x zs s t e f l none step shut keep k =
    subst (λ (z : Stream). Stands p whole new closes' over' (with_out h o z)) (sym f)
    (one_given p whole old new closes closes' over over' h o x s l none
    (λ ins r q m. step ins r q m ∙ ap (λ (ys : List FrameValue). after (if q == o then ys else []) (new ins q)) e) shut keep k)

pub not_finished : {A : Type 0} (b : Bool) (p : Option A) (x : A) → (b ≡ true → p ≡ None) → p ≡ Some x → b ≡ false
not_finished false p x f e = refl
not_finished true p x f e = absurd (none-some x (sym (f refl) ∙ e))

pub one_same : (p : Pads) (whole old new : Streams → Streams) (closes closes' over over' : ℕ → Bool) (h : History) (o : ℕ)
    → ((ins : Streams) → AllRise p.inputs ins → (q : ℕ) → q < p.outputs → old ins q ≡ after (if q == o then [] else []) (new ins q))
    → ((j : ℕ) → closes j ≡ true → closes' j ≡ true)
    → ((q : ℕ) → over q ≡ true → over' q ≡ true)
    → Stands p whole old closes over h → Stands p whole new closes' over' h
one_same p whole old new closes closes' over over' h o step shut keep k = stands_same p whole old new closes closes' over over' h o k step shut keep

pub one_end : (p : Pads) (whole old new : Streams → Streams) (closes closes' over over' : ℕ → Bool) (h : History) (o : ℕ) (s : Stream)
    → ((ins : Streams) → AllRise p.inputs ins → (q : ℕ) → q < p.outputs → old ins q ≡ after (if q == o then [] else []) (new ins q))
    → ((j : ℕ) → closes j ≡ true → closes' j ≡ true)
    → ((q : ℕ) → over q ≡ true → over' q ≡ true)
    → ((ins : Streams) → new ins o ≡ ended_stream [])
    → over' o ≡ true
    → Stands p whole old closes over (with_out h o s) → Stands p whole new closes' over' (with_out h o (ended_stream s.frames))
one_end p whole old new closes closes' over over' h o s step shut keep none done k =
    let same : with_out (with_out h o s) o (ended_stream (at_pad h.outs o s o).frames) ≡ with_out h o (ended_stream s.frames)
    = again_out h o s (ended_stream (at_pad h.outs o s o).frames) ∙ ap (λ (z : Stream). with_out h o (ended_stream z.frames)) (at_self h.outs o s) in
    subst (λ (z : History). Stands p whole new closes' over' z) same
    (stands_end p whole new closes' over' (with_out h o s) o (stands_same p whole old new closes closes' over over' (with_out h o s) o k step shut keep) none done)

-- ---- what the filter was told

module _ {F : Type 0} (pads : F → Pads) (rest : F → Streams → Streams) (closes over : F → ℕ → Bool) (accepts : F → ℕ → FrameValue → Type 0) where
  pub told_refl : (f : F) (i : ℕ) (s t : Stream) → t ≡ s → Told pads rest closes over accepts f f i s t
  told_refl f i s t e = record {
    pads_are = refl;
    closes_stay = λ j k. k;
    others = λ j y n a. a;
    stands = λ whole h k. subst (λ (z : Stream). Stands (pads f) whole (rest f) (closes f) (over f) (with_in h i z)) (sym e) k;
  }

  pub told_trans : (f g k : F) (i : ℕ) (s t u : Stream) → Told pads rest closes over accepts f g i s t → Told pads rest closes over accepts g k i t u → Told pads rest closes over accepts f k i s u
  told_trans f g k i s t u p q = record {
    pads_are = q.pads_are ∙ p.pads_are;
    closes_stay = λ j e. q.closes_stay j (p.closes_stay j e);
    others = λ j y n a. q.others j y n (p.others j y n a);
    stands = λ whole h e.
        subst (λ (z : Pads). Stands z whole (rest k) (closes k) (over k) (with_in h i u)) p.pads_are
        (q.stands whole h (subst (λ (z : Pads). Stands z whole (rest g) (closes g) (over g) (with_in h i t)) (sym p.pads_are) (p.stands whole h e)));
  }
