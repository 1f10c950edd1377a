-- The two ends of a link, by their parts.
use Rattle.std.proofs.Common.{◌≢◌, ℕ, zero, suc, ◌<◌, arith, length, Some, ◌≡◌, Bool, true, List, [], ◌∷◌, ◌++◌, refl, sym, ◌∙◌, ap, append-nil, append_assoc, Option, None, subst}
use Rattle.std.specs.Prelude.{option_to_list, slice_get, slice_set}
use Rattle.std.proofs.lemmas.Option.{same_Some}
use Rattle.link_ports.specs.Parcels.{front_of, items_of}
use Rattle.av_frame.specs.Frames.{FrameValue}
use Rattle.av_frame.specs.Streams.{Stream, Begins}
use Rattle.av_frame.specs.StreamLemmas.{stream_eq}
use Rattle.link_ports.specs.Links.{AreBeside}
use Rattle.graph_node.specs.Ports.{offered, given}
use Rattle.graph_node.specs.declared.inlet.Inlet.{Inlet}
use Rattle.graph_node.specs.declared.outlet.Outlet.{Outlet}
use Rattle.link_ports.proofs.MoveLemmas.{all_taken}
use Rattle.link_ports.specs.Ends.{sent}

abbrev pub stream : List FrameValue → Bool → Stream
stream xs b = record { frames = xs; ended = b }

pub begins_is : (took took0 queued ring waiting sent : List FrameValue) (pending held : Option FrameValue) (finished received ending : Bool)
    → took ≡ took0 → took0 ≡ front_of took0 (option_to_list pending) ++ option_to_list pending
    → (finished ≡ true → (received ≡ true) × (queued ≡ []) × (pending ≡ None))
    → (ending ≡ true → held ≡ None)
    → took ++ queued ++ ring ++ waiting ≡ sent
    → (received ≡ true → queued ≡ [] → (took ≡ sent) × (ending ≡ true))
    → Begins (stream (front_of took (option_to_list pending)) finished) (stream (sent ++ option_to_list held) ending)
begins_is took took0 queued ring waiting sent pending held finished received ending z parts fin hold e ended =
    let front = front_of took (option_to_list pending) in
    let behind = queued ++ (ring ++ waiting) in
    let mine : took ≡ front ++ option_to_list pending = subst (λ (l : List FrameValue). l ≡ front_of l (option_to_list pending) ++ option_to_list pending) (sym z) parts in
    let all : sent ≡ took ++ behind = sym e ∙ append_assoc (took ++ queued) ring waiting ∙ append_assoc took queued (ring ++ waiting) in
    record {
      front = record {
        rest = (option_to_list pending ++ behind) ++ option_to_list held;
        whole =
            ap (λ (l : List FrameValue). l ++ option_to_list held) (all ∙ ap (λ (l : List FrameValue). l ++ behind) mine ∙ append_assoc front (option_to_list pending) behind)
            ∙ append_assoc front (option_to_list pending ++ behind) (option_to_list held);
      };
      same = λ f.
          (let t = ended (fin f).0 (fin f).1 in
          let told : took ≡ front = mine ∙ ap (λ (p : Option FrameValue). front ++ option_to_list p) (fin f).2 ∙ append-nil front in
          stream_eq (sent ++ option_to_list held) front ending finished
          (ap (λ (p : Option FrameValue). sent ++ option_to_list p) (hold t.1) ∙ append-nil sent ∙ sym t.0 ∙ told) (t.1 ∙ sym f));
    }

pub arrived_given : (items sent : List FrameValue) (held : Option FrameValue) (received ending : Bool) → (items ≡ sent) × (received ≡ ending) → held ≡ None → stream items received ≡ stream (sent ++ option_to_list held) ending
arrived_given items sent held received ending a h =
    stream_eq items (sent ++ option_to_list held) received ending
    (a.0 ∙ sym (append-nil sent) ∙ ap (λ (p : Option FrameValue). sent ++ option_to_list p) (sym h)) a.1

-- what was told at one end begins what was given at the other
pub beside_begins : (q : Outlet) (r : Inlet) → AreBeside q.port r.port → Begins (offered r) (given q)
beside_begins q r b =
    begins_is r.port.taken r.port.taken r.port.queued (items_of r.port.in_ring) q.port.waiting (sent q.port) r.pending q.held r.finished r.port.end_received q.port.ended
    refl r.pending_is r.finished_is q.held_is b.items (all_taken q.port r.port b)

-- at another place than the one that was set, and there
pub other_set : {A : Type 0} (xs : List A) (i j : ℕ) (y z : A) → j ≢ i → slice_get (slice_set xs i y) j ≡ Some z → slice_get xs j ≡ Some z
other_set [] i j y z n e = e
other_set (x ∷ xs) zero zero y z n e = absurd (n refl)
other_set (x ∷ xs) zero (suc j) y z n e = e
other_set (x ∷ xs) (suc i) zero y z n e = e
other_set (x ∷ xs) (suc i) (suc j) y z n e = other_set xs i j y z (λ f. n (ap suc f)) e

pub here_set : {A : Type 0} (xs : List A) (i : ℕ) (y z : A) → i < length xs → slice_get (slice_set xs i y) i ≡ Some z → z ≡ y
here_set [] i y z h e = absurd (omega (arith, h))
here_set (x ∷ xs) zero y z h e = same_Some z y (sym e)
here_set (x ∷ xs) (suc i) y z h e = here_set xs i y z (omega (arith, h)) e

pub set_get : {A : Type 0} (xs : List A) (i : ℕ) (y : A) → i < length xs → slice_get (slice_set xs i y) i ≡ Some y
set_get [] i y h = absurd (omega (arith, h))
set_get (x ∷ xs) zero y h = refl
set_get (x ∷ xs) (suc i) y h = set_get xs i y (omega (arith, h))
