use Rattle.std.proofs.Common.{inl, inr, sym, List, subst}
use Rattle.std.specs.Prelude.{option_to_list}
use Rattle.av_frame.specs.Frames.{FrameValue}
use Rattle.av_frame.specs.Streams.{Stream, Begins}
use Rattle.av_frame.specs.StreamLemmas.{begins_refl}
use Rattle.link_ports.specs.Parcels.{front_of}
use Rattle.graph_node.specs.Ports.{offered, closing}
use Rattle.graph_node.proofs.InletLemmas.{begins_taken, bool_or}
use Rattle.graph_node.proofs.inlet.Inlet.fill.Goals as goal

pub returns-clause-begins : goal.returns-clause-begins
returns-clause-begins c =
    let old = c.args.self.now in
    elim (bool_or (closing old)) [
      | inl e ↦ (let a = (c.fill_port.ensures.«closed» e).0 in begins_taken old.port.taken c.fill_port.new.port.taken old.pending old.finished (old.dropped_is e).1 a.taken (λ f. a.same (old.finished_is f).0))
      | inr e ↦ (let k = c.fill_port.ensures.«open» e in
          subst (λ (l : List FrameValue). Begins (offered old) (let s : Stream = record { frames = front_of l (option_to_list old.pending); ended = old.finished } in s)) (sym k.taken) (begins_refl (offered old)))
    ]
