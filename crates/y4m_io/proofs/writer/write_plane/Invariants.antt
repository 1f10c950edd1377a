use Rattle.std.proofs.Common.{◌≡◌, ◌-◌, ◌≤◌, take}
use Rattle.std.specs.List.{concat}
use Rattle.av_host.specs.Calls.{Changes, appended}
use Rattle.av_frame.specs.Frames.{plane_at}
use Rattle.y4m_io.proofs.writer.write_plane.Given as goal

abbrev pub invariant-loop-row : goal.invariant-loop-row
invariant-loop-row g l = record {
  within : l.row ≤ l.rows;
  same : l.frame ≡ l.initial.frame;
  written : Changes (g.H.Host.world l.initial.host) (g.H.Host.world l.host) l.id (appended (concat (take l.row (plane_at l.initial.frame.planes l.plane).rows)));
  faults : (g.H.Host.world l.host).faults ≡ (g.H.Host.world l.initial.host).faults;
}

abbrev pub decreases-loop-row : goal.decreases-loop-row
decreases-loop-row g l = l.rows - l.row
