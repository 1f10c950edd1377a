use Rattle.std.proofs.Common.{List, refl, ap, subst, length}
use Rattle.av_frame.specs.Frames.{FrameValue}
use Rattle.link_ports.specs.Ends.{Sender, Receiver}
use Rattle.graph_node.specs.Nodes.{AreInlets, AreOutlets}
use Rattle.graph_node.proofs.NewLemmas.{new_sound, new_is_lawful}
use Rattle.graph_node.proofs.node.Node.new.Goals as goal

is_new : (g : _) (c : goal.In_ok-outs g) → goal.the-asks-returns-clause-new g.row.F g.F.laws g.F.Filter g.F.Filter-dict g.F.Destruct-dict g.world g.met.F.Filter g.met.F.Destruct c
is_new g c = record {
  filter_is = refl;
  ins_are = subst (λ (l : List (Receiver FrameValue)). AreInlets c.args.shapes.now l c.in_ok-ins.ins.items) c.into_vec.ensures c.in_ok-ins.ensures;
  outs_are = subst (λ (l : List (Sender FrameValue)). AreOutlets l c.in_ok-outs.outs.items) c.into_vec-2.ensures c.in_ok-outs.ensures;
  inputs_are = ap length c.as_slice.ensures;
  outputs_are = ap length c.as_slice-2.ensures;
  idle_is = refl;
}

pub returns-clause-new : goal.returns-clause-new
returns-clause-new g c = is_new g c

pub returns-clause-sound : goal.returns-clause-sound
returns-clause-sound g c =
    new_sound g.F.Filter.pads g.F.Filter.rest g.F.Filter.closes g.F.Filter.wants g.F.Filter.over g.F.Filter.accepts c.args.filter c.args.shapes.now c.args.ins c.args.outs _ refl (is_new g c) c.requires.inputs.0 c.requires.outputs.0 c.requires.accepts

pub returns-clause-law : goal.returns-clause-law
returns-clause-law g c =
    new_is_lawful g.F.Filter.pads g.F.Filter.rest g.F.Filter.closes g.F.Filter.wants g.F.Filter.over g.F.Filter.accepts c.args.filter c.args.shapes.now c.args.ins c.args.outs _ (is_new g c)
