use Rattle.std.proofs.Common.{◌≡◌, ◌*◌, take, drop}
use Rattle.std.specs.List.{concat}
use Rattle.av_frame.specs.Frames.{plane_at}
use Rattle.y4m_io.proofs.rows.copy_rows.Given as goal

abbrev pub invariant-loop-i : goal.invariant-loop-i
invariant-loop-i l = record {
  same : l.frame ≡ l.initial.frame;
  out : take (l.i * l.width) l.out ≡ concat (take l.i (drop l.first (plane_at l.initial.frame.planes l.plane).rows));
}
