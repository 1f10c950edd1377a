-- A node stays idle if one of its links was only looked at.
use Rattle.std.proofs.Common.{◌≡◌, ◌||◌, None, inl, inr, ℕ, ◌<◌, Bool, true, false, List, length, refl, sym, ◌∙◌, ap, subst}
use Rattle.std.specs.Prelude.{slice_index_or, slice_set}
use Rattle.std.specs.Vec.{with_item}
use Rattle.std.proofs.lemmas.Option.{slice_get_read, get_or_from_slice_get}
use Rattle.std.proofs.lemmas.List.{get_or-set_same, get_or-set_other}
use Rattle.av_frame.specs.Streams.{Stream, Streams, Lawful}
use Rattle.graph_node.specs.Ports.{offered, given, arrived, closing, closed, is_done, is_wanted, Drawn}
use Rattle.graph_node.specs.Nodes.{IsIdle, outlet, inlet}
use Rattle.graph_node.specs.declared.inlet.Inlet.{Inlet}
use Rattle.graph_node.specs.declared.outlet.Outlet.{Outlet}
use Rattle.graph_node.specs.declared.node.Node.{Node}
use Rattle.link_ports.specs.Links.{HasArrived}
use Rattle.link_ports.specs.Ends.{sent, received}
use Rattle.graph_node.proofs.BesideLemmas.{arrived_given}
use Rattle.graph_node.proofs.NodeLemmas.{is_or_not, drawn_all}

pub same_field : {A B : Type 0} (f : A → B) (xs : List A) (i : ℕ) (old y : A) → i < length xs → old ≡ slice_index_or xs i old → f y ≡ f old
    → (j : ℕ) (d : A) → f (slice_index_or (slice_set xs i y) j d) ≡ f (slice_index_or xs j d)
same_field f xs i old y h v e j d =
    elim (is_or_not i j) [
      | inr n ↦ ap f (get_or-set_other xs i j y d n)
      | inl q ↦
          ap (λ k. f (slice_index_or (slice_set xs i y) k d)) q ∙ ap f (get_or-set_same xs i y d h) ∙ e
          ∙ sym (ap (λ k. f (slice_index_or xs k d)) q ∙ ap f (get_or_from_slice_get xs i old d (slice_get_read xs (length xs) i old refl h v)))
    ]

module _ {F : Type 0} (rest : F → Streams → Streams) (closes wants : F → ℕ → Bool) where
  pub idle_out : (a : Node F) (o : ℕ) (old y : Outlet) → o < length a.outs.items → old ≡ slice_index_or a.outs.items o old
      → y.held ≡ old.held → is_done y ≡ is_done old → is_wanted y ≡ is_wanted old → IsIdle rest closes wants a
      → IsIdle rest closes wants record { filter = a.filter; inputs = a.inputs; outputs = a.outputs; ins = a.ins; outs = with_item a.outs o y; idle = a.idle }
  idle_out a o old y h v e f g idle =
      let done = same_field is_done a.outs.items o old y h v f in
      let held = same_field (λ (x : Outlet). x.held) a.outs.items o old y h v e in
      let wanted = same_field is_wanted a.outs.items o old y h v g in
      record {
        drawn = idle.drawn;
        asked = λ j l d. elim (idle.asked j l d) [ inl q ↦ inl (done j d ∙ q) | inr q ↦ inr (q.0, held j d ∙ q.1) ];
        closed = λ i l d k. idle.closed i l d (elim k [ inl q ↦ inl q | inr q ↦ inr (λ j z m. sym (done j z) ∙ q j z m) ]);
        needs = λ j d l q. idle.needs j d l (sym (done j d) ∙ q);
        wanted = λ i l d w k. idle.wanted i l d w (k.0, k.1, k.2, sym (wanted k.0 k.1) ∙ k.3);
      }

  pub idle_in : (a : Node F) (i : ℕ) (old y : Inlet) → i < length a.ins.items → old ≡ slice_index_or a.ins.items i old
      → offered y ≡ offered old → arrived y ≡ arrived old → y.shape ≡ old.shape → closing y ≡ closing old → y.port.asked ≡ old.port.asked → IsIdle rest closes wants a
      → IsIdle rest closes wants record { filter = a.filter; inputs = a.inputs; outputs = a.outputs; ins = with_item a.ins i y; outs = a.outs; idle = a.idle }
  idle_in a i old y h v o r s c k idle =
      let shut = same_field closing a.ins.items i old y h v c in
      let asks = same_field (λ (x : Inlet). x.port.asked) a.ins.items i old y h v k in
      record {
        drawn = λ j l. drawn_all closes a i old y h v o r s (λ e. c ∙ e) j (idle.drawn j l);
        asked = idle.asked;
        closed = λ j l d m. shut j d ∙ idle.closed j l d m;
        needs = idle.needs;
        wanted = λ j l d w m. asks j d ∙ idle.wanted j l d w m;
      }

-- ---- at an idle node: all that was given was offered to the next
or_end : (c e : Bool) → (c || e) ≡ true → c ≡ false → e ≡ true
or_end true e h k = absurd (cc)
or_end false e h k = h

module _ {F : Type 0} (rest : F → Streams → Streams) (closes wants : F → ℕ → Bool) where
  pub drawn_open : (n : Node F) → IsIdle rest closes wants n → (i : ℕ) (e : Inlet) → i < n.inputs → closing (inlet n i e) ≡ false → Drawn (inlet n i e)
  drawn_open n idle i e l q =
      elim (idle.drawn i l e) [
        | inl k ↦ absurd (cc)
        | inr (inl k) ↦ absurd (let z = idle.closed i l e (inl k) in cc)
        | inr (inr k) ↦ k
      ]

  pub held_none : (n : Node F) → IsIdle rest closes wants n → (o : ℕ) (d : Outlet) → o < n.outputs → closed (outlet n o d) ≡ false → (outlet n o d).held ≡ None
  held_none n idle o d l q =
      elim (idle.asked o l d) [
        | inl k ↦ (outlet n o d).held_is (or_end (closed (outlet n o d)) (outlet n o d).port.ended k q)
        | inr k ↦ k.1
      ]

  pub link_drawn : (n m : Node F) → IsIdle rest closes wants n → IsIdle rest closes wants m → (o : ℕ) (d : Outlet) → o < n.outputs → (i : ℕ) (e : Inlet) → i < m.inputs
      → HasArrived (outlet n o d).port (inlet m i e).port → closing (inlet m i e) ≡ false → Lawful (inlet m i e).shape (given (outlet n o d)).frames
      → given (outlet n o d) ≡ offered (inlet m i e)
  link_drawn n m idle idle' o d l i e k still q lawful =
      let a = arrived_given (received (inlet m i e).port) (sent (outlet n o d).port) (outlet n o d).held (inlet m i e).port.end_received (outlet n o d).port.ended (still.items, still.ends) (held_none n idle o d l (still.closings ∙ q)) in
      sym a ∙ drawn_open m idle' i e k q (subst (λ (s : Stream). Lawful (inlet m i e).shape s.frames) (sym a) lawful)
