use Rattle.std.proofs.Common.{◌+◌, ap, arith}
use Rattle.av_frame.specs.Rasters.{Raster}
use Rattle.av_frame.proofs.RowLemmas.{place_inside, column_read}
use Rattle.av_frame.proofs.plane.Plane.column.Goals as goal

pub column-requires-clause-inside : goal.column-requires-clause-inside
column-requires-clause-inside c =
    let i = c.self.inside in
    let width = ap (λ (z : Raster). z.width) c.self.view_is in
    let height = ap (λ (z : Raster). z.height) c.self.view_is in
    λ k h. let inside = place_inside i.geometry _ (c.args.row + k) c.self.invariant (omega arith) in omega arith

pub returns-clause-out : goal.returns-clause-out
returns-clause-out c =
    let i = c.self.inside in
    λ k h. column_read i.geometry i.page (c.args.row + k) c.args.column _ c.args.self.now c.self.view_is (c.column.ensures.out k h) (omega arith) c.requires.column
