use Rattle.std.proofs.Common.{◌≡◌, ◌-◌}
use Rattle.av_base.specs.Shapes.{planes_of}
use Rattle.y4m_io.proofs.ReadLemmas.{ReadsPlanes}
use Rattle.y4m_io.proofs.reader.read_picture.Given as goal

abbrev pub invariant-loop-plane : goal.invariant-loop-plane
invariant-loop-plane g l = record {
  planes : ReadsPlanes (g.H.Host.world l.initial.host) (g.H.Host.world l.host) l.id l.plane l.initial.edit l.edit;
  faults : (g.H.Host.world l.host).faults ≡ (g.H.Host.world l.initial.host).faults;
}

abbrev pub decreases-loop-plane : goal.decreases-loop-plane
decreases-loop-plane g l = planes_of l.initial.edit.shape - l.plane
