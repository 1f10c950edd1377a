use Rattle.std.proofs.Common.{◌≡◌, pos}
use Rattle.y4m_io.specs.declared.y4m_state.Stage.TheVariants.{Headed}
use Rattle.avgraph.proofs.RunLemmas.{SoFar}
use Rattle.avgraph.proofs.run.pass_all.Given as goal

abbrev pub invariant-loop-frame : goal.invariant-loop-frame
invariant-loop-frame g l = record {
  id : l.reader.id ≡ l.initial.reader.id;
  stage : l.reader.stage ≡ Headed l.initial.chain.shape;
  writer : l.writer ≡ record l.initial.writer { bytes = l.writer.bytes };
  chain : l.chain ≡ record l.initial.chain { next = pos l.reader.frames };
  faults : (g.H.Host.world l.host).faults ≡ (g.H.Host.world l.initial.host).faults;
  so_far : SoFar l.initial.chain.shape l.initial.chain.readies l.initial.reader.room l.initial.writer.bytes (g.H.Host.world l.initial.host) (g.H.Host.world l.host) l.reader.id l.initial.writer.id l.reader.room l.reader.frames l.writer.bytes;
}

abbrev pub decreases-loop-frame : goal.decreases-loop-frame
decreases-loop-frame g l = l.reader.room
