use Rattle.std.proofs.Common.{◌∙◌, ◌<◌, ℕ, List, ap, subst, arith}
use Rattle.av_base.specs.Shapes.{columns_of, rows_of}
use Rattle.av_base.specs.declared.shapes.Shape.{Shape}
use Rattle.av_frame.specs.Rasters.{row_of, row_by}
use Rattle.av_frame.specs.Frames.{plane_at}
use Rattle.av_frame.proofs.PaintLemmas.{HasRows-more, HasRows-all, plane_width}
use Rattle.av_frame.proofs.rows.map_plane.Goals as goal

pub loop-row-preserved : goal.loop-row-preserved
loop-row-preserved g c =
    let h = c.loop-row.invariant in
    let p = c.args.plane in
    let row = c.loop-row.row in
    let map = c.args.map.now in
    let rows = c.plane_size-columns.ensures.rows ∙ ap (λ (s : Shape). rows_of s p) c.shape.ensures.shape in
    let wide = plane_width h c.requires.plane in
    let old = h.rest row (omega arith) in
    HasRows-more h c.requires.plane _ (omega arith)
    (ap (λ (n : ℕ). row_by n (g.M.RowMap.value map p (row_of (plane_at c.loop-row.edit.planes p) row))) wide
    ∙ ap (λ (z : List ℕ). row_by (columns_of c.args.edit.now.shape p) (g.M.RowMap.value map p z)) old)
    (λ k b. subst (λ (z : List ℕ). g.M.RowMap.value map p z k < 256) old (c.map_row.ensures.small k (omega arith))) c.map_row.ensures.mapped

pub returns : goal.returns
returns g c = HasRows-all c.loop-row.invariant c.requires.plane
    (let rows = c.plane_size-columns.ensures.rows ∙ ap (λ (s : Shape). rows_of s c.args.plane) c.shape.ensures.shape in omega arith)
