use Rattle.std.proofs.Common.{◌∙◌, ℕ, ap}
use Rattle.std.specs.Simd.Lanes.{put_chunk}
use Rattle.av_frame.specs.Rasters.{Raster, row_by}
use Rattle.av_frame.proofs.PageLemmas.{length-row_by}
use Rattle.av_frame.proofs.RowLemmas.{raster_row}
use Rattle.av_frame.proofs.plane.Plane.paint_row.Goals as goal

pub returns-clause-painted : goal.returns-clause-painted
returns-clause-painted g c =
    let i = c.self.inside in
    let x = c.args.self.now in
    let value = g.K.Kernel.value c.args.kernel.now c.args.sources.now c.args.plane c.args.row in
    let width = ap (λ (z : Raster). z.width) c.self.view_is in
    raster_row i.geometry i.page c.paint.new.self (row_by x.width value) c.args.row c.place_of-at.result x c.self.view_is
    (c.paint.ensures.painted ∙ ap (λ (n : ℕ). put_chunk c.place_of-at.result i.page (row_by n value)) width)
    c.place_of-at.ensures c.self.invariant c.requires.row (length-row_by x.width value)
