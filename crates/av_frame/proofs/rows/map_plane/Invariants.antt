use Rattle.av_frame.specs.Rasters.{row_of}
use Rattle.av_frame.specs.Frames.{plane_at}
use Rattle.av_frame.proofs.PaintLemmas.{HasRows}
use Rattle.av_frame.proofs.rows.map_plane.Given as goal

abbrev pub invariant-loop-row : goal.invariant-loop-row
invariant-loop-row g l = HasRows l.initial.edit l.edit l.plane (λ r c. g.M.RowMap.value l.map l.plane (row_of (plane_at l.initial.edit.planes l.plane) r) c) l.row
