use Rattle.std.proofs.Common.{◌≡◌, ◌-◌}
use Rattle.y4m_io.proofs.ReadLemmas.{ReadsRows}
use Rattle.y4m_io.proofs.reader.read_plane.Given as goal

abbrev pub invariant-loop-row : goal.invariant-loop-row
invariant-loop-row g l = record {
  rows : ReadsRows (g.H.Host.world l.initial.host) (g.H.Host.world l.host) l.id l.plane l.row l.initial.edit l.edit;
  faults : (g.H.Host.world l.host).faults ≡ (g.H.Host.world l.initial.host).faults;
}

abbrev pub decreases-loop-row : goal.decreases-loop-row
decreases-loop-row g l = l.rows - l.row
