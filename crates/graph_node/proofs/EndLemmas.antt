-- The inputs and outputs of a new node, one by one.
use Rattle.std.proofs.Common.{◌≡◌, ◌+◌, ◌<◌, ℕ, List, [], ◌∷◌, ◌++◌, None, Some, false, All, length, take, refl, sym, ◌∙◌, ap, arith, length-append, append_assoc, append-nil}
use Rattle.std.specs.Prelude.{slice_index_or, slice_get}
use Rattle.std.proofs.lemmas.Option.{get_or_from_slice_get}
use Rattle.std.proofs.lemmas.List.{map-append, take_more, length-map}
use Rattle.std.proofs.lemmas.List.Elements.{All-append}
use Rattle.av_frame.specs.Frames.{FrameValue}
use Rattle.av_frame.specs.Streams.{open_stream}
use Rattle.av_base.specs.declared.shapes.Shape.{Shape}
use Rattle.link_ports.specs.Ends.{Sender, Receiver}
use Rattle.graph_node.specs.Ports.{offered, given, closing, inlet_shape}
use Rattle.graph_node.specs.Nodes.{AreInlets, AreOutlets}
use Rattle.graph_node.specs.declared.inlet.Inlet.{Inlet}
use Rattle.graph_node.specs.declared.outlet.Outlet.{Outlet}

one : {A : Type 0} (P : A → Type 0) (x : A) → P x → All P (x ∷ [])
one P x p = λ k d h. at k d h
  where
    at : (k : ℕ) (d : _) → k < 1 → P (slice_index_or (x ∷ []) k d)
    at k d h = let z : k ≡ 0 = omega (arith, h) in rw z p

pub outlets_none : (outs : List Outlet) → outs ≡ [] → AreOutlets [] outs
outlets_none outs e = rw e record { ports_are = refl; empty = λ k d h. absurd (omega (arith, h)) }

pub outlets_more : (ports : List (Sender FrameValue)) (outs outs' : List Outlet) (p : Sender FrameValue) (q : Outlet) → AreOutlets ports outs → q.port ≡ p → given q ≡ open_stream [] → outs' ≡ outs ++ q ∷ []
    → AreOutlets (ports ++ p ∷ []) outs'
outlets_more ports outs outs' p q k e g f = rw f record {
  ports_are = map-append (λ (z : Outlet). z.port) outs (q ∷ []) ∙ ap (λ (l : List (Sender FrameValue)). l ++ q.port ∷ []) k.ports_are ∙ ap (λ (z : Sender FrameValue). ports ++ z ∷ []) e;
  empty = All-append (λ (z : Outlet). given z ≡ open_stream []) outs (q ∷ []) k.empty (one (λ (z : Outlet). given z ≡ open_stream []) q g);
}

pub inlets_none : (shapes : List Shape) (ins : List Inlet) → ins ≡ [] → AreInlets (take (length ins) shapes) [] ins
inlets_none shapes ins e = rw e record { ports_are = refl; shapes_are = refl; empty = λ k d h. absurd (omega (arith, h)) }

pub inlets_more : (shapes : List Shape) (ports : List (Receiver FrameValue)) (ins ins' : List Inlet) (p : Receiver FrameValue) (x : Inlet) (t : Shape) → AreInlets (take (length ins) shapes) ports ins
    → x.port ≡ p → x.shape ≡ t → slice_get shapes (length ins) ≡ Some t → length ins < length shapes → offered x ≡ open_stream [] → closing x ≡ false → x.last ≡ None → ins' ≡ ins ++ x ∷ []
    → AreInlets (take (length ins') shapes) (ports ++ p ∷ []) ins'
inlets_more shapes ports ins ins' p x t k e s g h o c l f =
    let long : length ins' ≡ length ins + 1 = omega (arith, ap length f, length-append ins (x ∷ [])) in
    rw (long, f) record {
      ports_are = map-append (λ (z : Inlet). z.port) ins (x ∷ []) ∙ ap (λ (r : List (Receiver FrameValue)). r ++ x.port ∷ []) k.ports_are ∙ ap (λ (z : Receiver FrameValue). ports ++ z ∷ []) e;
      shapes_are = map-append inlet_shape ins (x ∷ []) ∙ ap (λ (r : List Shape). r ++ x.shape ∷ []) k.shapes_are ∙ ap (λ (z : Shape). take (length ins) shapes ++ z ∷ []) (s ∙ sym (get_or_from_slice_get shapes (length ins) t t g)) ∙ sym (take_more shapes (length ins) t h);
      empty = All-append (λ (z : Inlet). (offered z ≡ open_stream []) × (closing z ≡ false) × (z.last ≡ None)) ins (x ∷ []) k.empty
          (one (λ (z : Inlet). (offered z ≡ open_stream []) × (closing z ≡ false) × (z.last ≡ None)) x (o, c, l));
    }

-- one more of the ports
pub next_port : {A : Type 0} (done rest rest' all : List A) (x : A) → done ++ rest ≡ all → rest ≡ x ∷ rest' → (done ++ x ∷ []) ++ rest' ≡ all
next_port done rest rest' all x e f = append_assoc done (x ∷ []) rest' ∙ ap (λ (l : List _). done ++ l) (sym f) ∙ e

-- the last was reached
pub all_ports : {A : Type 0} (done rest all : List A) (n : ℕ) → done ++ rest ≡ all → n ≡ 0 → n ≡ length rest → done ≡ all
all_ports done [] all n e z l = sym (append-nil done) ∙ e
all_ports done (x ∷ xs) all n e z l = absurd (omega (arith, z, l))

-- there is a shape for one more
pub below : (shapes : List Shape) (done rest all : List (Receiver FrameValue)) (ins : List Inlet) (p : Receiver FrameValue) → AreInlets (take (length ins) shapes) done ins → (done ++ p ∷ []) ++ rest ≡ all → length shapes ≡ length all
    → length ins < length shapes
below shapes done rest all ins p k e l =
    omega (arith, ap length e, length-append (done ++ p ∷ []) rest, length-append done (p ∷ []), ap length k.ports_are, length-map ins (λ (z : Inlet). z.port), l)
