-- The mark of a node says nothing of its filter and ports.
use Rattle.std.proofs.Common.{◌≡◌, ℕ, Bool, List, Option, Some, refl, sym, ◌∙◌, ap}
use Rattle.std.specs.Prelude.{slice_get, option_map}
use Rattle.std.proofs.lemmas.Option.{slice_get-map}
use Rattle.link_ports.specs.Ends.{Sender}
use Rattle.link_ports.specs.Moves.{sender_core}
use Rattle.graph_node.specs.Ports.{outlet_core}
use Rattle.graph_node.specs.declared.outlet.Outlet.{Outlet}
use Rattle.av_frame.specs.Frames.{FrameValue}
use Rattle.av_frame.specs.Streams.{Streams}
use Rattle.av_frame.specs.FilterLaws.{Pads}
use Rattle.graph_node.specs.Nodes.{Fit, Step, IsIdle, SameCores, moves}
use Rattle.graph_node.specs.declared.node.Node.{Node}

some_same : {C : Type 0} (a b : C) → (let r : Option C = Some a in r) ≡ Some b → a ≡ b
some_same a b e = cc

wanted_of : (s t : Sender FrameValue) → sender_core s ≡ sender_core t → s.wanted ≡ t.wanted
unfolding sender_core
wanted_of s t e = ap (λ (z : Sender FrameValue). z.wanted) e

module _ {F : Type 0} where
  -- an output is wanted as before if nothing moved
  pub same_wanted : (a b : Node F) → SameCores a b → (o : ℕ) (q p : Outlet) → slice_get a.outs.items o ≡ Some q → slice_get b.outs.items o ≡ Some p → p.port.wanted ≡ q.port.wanted
  same_wanted a b k o q p e f =
      wanted_of p.port q.port
      (some_same (outlet_core p) (outlet_core q)
      (sym (ap (option_map outlet_core) f) ∙ sym (slice_get-map outlet_core b.outs.items o) ∙ ap (λ (l : List (Sender FrameValue)). slice_get l o) k.outs ∙ slice_get-map outlet_core a.outs.items o ∙ ap (option_map outlet_core) e))

  pub cores_mark : (a b : Node F) (m : Bool) → SameCores a b → SameCores a (record b { idle = m })
  cores_mark a b m c = record { ins = c.ins; outs = c.outs }

  pub moves_mark : (n : Node F) (m : Bool) → moves (record n { idle = m }) ≡ moves n
  unfolding moves
  moves_mark n m = refl

module _ {F : Type 0} (pads : F → Pads) (rest : F → Streams → Streams) (closes wants over : F → ℕ → Bool) (accepts : F → ℕ → FrameValue → Type 0) where
  pub fit_mark : (n : Node F) (m : Bool) → Fit pads closes accepts n → Fit pads closes accepts (record n { idle = m })
  fit_mark n m f = record { inputs_are = f.inputs_are; outputs_are = f.outputs_are; ins_len = f.ins_len; outs_len = f.outs_len; each = f.each; shut = f.shut }

  pub step_mark : (a b : Node F) (m : Bool) → Step pads rest closes over a b → Step pads rest closes over a (record b { idle = m })
  unfolding moves
  step_mark a b m s = record {
    law = λ whole k. (let l = s.law whole k in record { told = l.told; is_told = l.is_told; stands = l.stands });
    pads_are = s.pads_are;
    closes_stay = s.closes_stay;
    in_ids = s.in_ids;
    out_ids = s.out_ids;
    inputs_are = s.inputs_are;
    outputs_are = s.outputs_are;
    shapes = s.shapes;
    grows = s.grows;
  }

  pub idle_mark : (n : Node F) (m : Bool) → IsIdle rest closes wants n → IsIdle rest closes wants (record n { idle = m })
  idle_mark n m i = record { drawn = i.drawn; asked = i.asked; closed = i.closed; needs = i.needs; wanted = i.wanted }
