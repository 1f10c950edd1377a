use Rattle.av_frame.specs.Rasters.{row_of}
use Rattle.av_frame.specs.Frames.{plane_at}
use Rattle.av_frame.proofs.PaintLemmas.{HasPlanes}
use Rattle.av_frame.proofs.rows.map_rows.Given as goal

abbrev pub invariant-loop-plane : goal.invariant-loop-plane
invariant-loop-plane g l = HasPlanes l.initial.edit l.edit (λ p r c. g.M.RowMap.value l.map p (row_of (plane_at l.initial.edit.planes p) r) c) l.plane
