-- A new node is sound.
use Rattle.std.proofs.Common.{◌≡◌, ◌<◌, ℕ, Bool, true, false, List, map, length, refl, sym, ◌∙◌, ap, subst, Some, Option}
use Rattle.std.specs.Prelude.{slice_index_or, slice_get, option_map}
use Rattle.std.proofs.lemmas.List.{length-map}
use Rattle.std.proofs.lemmas.Option.{slice_get_read, slice_get-map, get_or_from_slice_get}
use Rattle.av_base.specs.declared.shapes.Shape.{Shape}
use Rattle.av_frame.specs.Frames.{FrameValue}
use Rattle.av_frame.specs.Streams.{Stream, Streams}
use Rattle.av_frame.specs.FilterLaws.{Pads}
use Rattle.link_ports.specs.Ends.{Sender, Receiver}
use Rattle.graph_node.specs.Ports.{closing, inlet_shape}
use Rattle.graph_node.specs.Nodes.{Fit, IsSound, IsNewNode, Law, inlet}
use Rattle.graph_node.specs.declared.inlet.Inlet.{Inlet}
use Rattle.graph_node.specs.declared.outlet.Outlet.{Outlet}
use Rattle.graph_node.specs.declared.node.Node.{Node}
use Rattle.graph_node.proofs.SaysLemmas.{new_law, there}

not_both : (b : Bool) → b ≡ true → b ≡ false → ⊥
not_both true e f = cc
not_both false e f = cc

shape_there : (shapes : List Shape) (ins : List Inlet) (i : ℕ) (d : Inlet) → map inlet_shape ins ≡ shapes → i < length ins → slice_get shapes i ≡ Some (slice_index_or ins i d).shape
shape_there shapes ins i d e h =
    let x = there ins i h in
    let at : slice_get ins i ≡ Some x.0 = slice_get_read ins (length ins) i x.0 refl h (sym x.1) in
    let same : slice_index_or ins i d ≡ x.0 = get_or_from_slice_get ins i x.0 d at in
    ap (λ (l : List Shape). slice_get l i) (sym e) ∙ slice_get-map inlet_shape ins i ∙ ap (option_map inlet_shape) at ∙ ap (λ (z : Inlet). let o : Option Shape = Some z.shape in o) (sym same)

module _ {F : Type 0} (pads : F → Pads) (rest : F → Streams → Streams) (closes wants over : F → ℕ → Bool) (accepts : F → ℕ → FrameValue → Type 0) where
  pub new_fit : (f : F) (shapes : List Shape) (ins : List (Receiver FrameValue)) (outs : List (Sender FrameValue)) (n : Node F) → n.filter ≡ f → IsNewNode f shapes ins outs n
      → (pads f).inputs ≡ length ins → (pads f).outputs ≡ length outs
      → ((i : ℕ) (shape : Shape) (y : FrameValue) → slice_get shapes i ≡ Some shape → y.shape ≡ shape → accepts f i y)
      → Fit pads closes accepts n
  new_fit f shapes ins outs n same new p q acc =
      let long : length n.ins.items ≡ n.inputs = sym (length-map n.ins.items (λ (z : Inlet). z.port)) ∙ ap length new.ins_are.ports_are ∙ sym new.inputs_are in
      record {
        inputs_are = ap (λ (z : F). (pads z).inputs) same ∙ p ∙ sym new.inputs_are;
        outputs_are = ap (λ (z : F). (pads z).outputs) same ∙ q ∙ sym new.outputs_are;
        ins_len = long;
        outs_len = sym (length-map n.outs.items (λ (z : Outlet). z.port)) ∙ ap length new.outs_are.ports_are ∙ sym new.outputs_are;
        each = λ i d h. (let lt : i < length n.ins.items = subst (λ (m : ℕ). i < m) (sym long) h in record {
          ready = λ _ y s k. subst (λ (z : F). accepts z i y) (sym same) (acc i (inlet n i d).shape y (shape_there shapes n.ins.items i d new.ins_are.shapes_are lt) s);
          ended = λ e. absurd (not_both (inlet n i d).finished e (ap (λ (z : Stream). z.ended) (new.ins_are.empty i d lt).0));
        });
        shut = λ i d h e. absurd (let lt : i < length n.ins.items = subst (λ (m : ℕ). i < m) (sym long) h in not_both (closing (inlet n i d)) e (new.ins_are.empty i d lt).1);
      }

  pub new_sound : (f : F) (shapes : List Shape) (ins : List (Receiver FrameValue)) (outs : List (Sender FrameValue)) (n : Node F) → n.filter ≡ f → IsNewNode f shapes ins outs n
      → (pads f).inputs ≡ length ins → (pads f).outputs ≡ length outs
      → ((i : ℕ) (shape : Shape) (y : FrameValue) → slice_get shapes i ≡ Some shape → y.shape ≡ shape → accepts f i y)
      → IsSound pads rest closes wants accepts n
  new_sound f shapes ins outs n same new p q acc = record {
    fit = new_fit f shapes ins outs n same new p q acc;
    rests = λ e. absurd (not_both n.idle e new.idle_is);
  }

  pub new_is_lawful : (f : F) (shapes : List Shape) (ins : List (Receiver FrameValue)) (outs : List (Sender FrameValue)) (n : Node F) → IsNewNode f shapes ins outs n
      → Law pads rest closes over (rest n.filter) n
  new_is_lawful f shapes ins outs n new =
      let long : length n.ins.items ≡ n.inputs = sym (length-map n.ins.items (λ (z : Inlet). z.port)) ∙ ap length new.ins_are.ports_are ∙ sym new.inputs_are in
      let wide : length n.outs.items ≡ n.outputs = sym (length-map n.outs.items (λ (z : Outlet). z.port)) ∙ ap length new.outs_are.ports_are ∙ sym new.outputs_are in
      new_law pads rest closes over accepts n long wide
      (λ i d h. (new.ins_are.empty i d (subst (λ (m : ℕ). i < m) (sym long) h)).0) (λ o d h. new.outs_are.empty o d (subst (λ (m : ℕ). o < m) (sym wide) h))
