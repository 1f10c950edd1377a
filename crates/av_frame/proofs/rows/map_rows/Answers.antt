use Rattle.std.proofs.Common.{◌∙◌, ap, set, arith}
use Rattle.av_base.specs.Shapes.{planes_of, columns_of, rows_of}
use Rattle.av_frame.specs.Rasters.{Raster, row_of, raster_by}
use Rattle.av_frame.proofs.PaintLemmas.{HasPlanes-more, HasPlanes-all}
use Rattle.av_frame.proofs.rows.map_rows.Goals as goal

pub loop-plane-preserved : goal.loop-plane-preserved
loop-plane-preserved g c =
    let h = c.loop-plane.invariant in
    let p = c.loop-plane.plane in
    let e = c.loop-plane.edit in
    let planes = ap planes_of c.shape.ensures.shape in
    HasPlanes-more h (omega arith)
    (c.map_plane.ensures ∙ ap (λ (x : Raster). record e { planes = set e.planes p (raster_by (columns_of e.shape p) (rows_of e.shape p) (λ r k. g.M.RowMap.value c.args.map.now p (row_of x r) k)) }) (h.rest p (omega arith)))

pub returns : goal.returns
returns g c =
    let planes = ap planes_of c.shape.ensures.shape in
    HasPlanes-all c.loop-plane.invariant (omega arith)
