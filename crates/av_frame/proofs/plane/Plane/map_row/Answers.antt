use Rattle.std.proofs.Common.{◌∙◌, ◌<◌, ℕ, List, ap, subst, arith}
use Rattle.std.specs.Simd.Lanes.{put_chunk}
use Rattle.av_frame.specs.Rasters.{Raster, row_by, row_of}
use Rattle.av_frame.proofs.PageLemmas.{length-row_by}
use Rattle.av_frame.proofs.RowLemmas.{raster_row, row_read}
use Rattle.av_frame.proofs.plane.Plane.map_row.Goals as goal

pub returns-clause-mapped : goal.returns-clause-mapped
returns-clause-mapped g c =
    let i = c.self.inside in
    let x = c.args.self.now in
    let at = c.place_of-at.result in
    let value = g.M.RowMap.value c.args.map.now c.args.plane (row_of x c.args.row) in
    let width = ap (λ (z : Raster). z.width) c.self.view_is in
    let read = row_read i.geometry i.page c.args.row at x c.self.view_is c.place_of-at.ensures c.requires.row in
    raster_row i.geometry i.page c.map.new.self (row_by x.width value) c.args.row at x c.self.view_is
    (c.map.ensures.mapped
    ∙ (ap (λ (z : List ℕ). put_chunk at i.page (row_by i.geometry.width (g.M.RowMap.value c.args.map.now c.args.plane z))) read
    ∙ ap (λ (n : ℕ). put_chunk at i.page (row_by n value)) width))
    c.place_of-at.ensures c.self.invariant c.requires.row (length-row_by x.width value)

pub returns-clause-small : goal.returns-clause-small
returns-clause-small g c =
    let i = c.self.inside in
    let x = c.args.self.now in
    let width = ap (λ (z : Raster). z.width) c.self.view_is in
    let read = row_read i.geometry i.page c.args.row c.place_of-at.result x c.self.view_is c.place_of-at.ensures c.requires.row in
    λ k h. subst (λ (z : List ℕ). g.M.RowMap.value c.args.map.now c.args.plane z k < 256) read (c.map.ensures.small k (omega arith))
