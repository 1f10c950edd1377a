use Rattle.std.proofs.Common.{◌≡◌, ◌+◌, ◌*◌, length, ap, ◌∙◌, sym, arith}
use Rattle.av_base.specs.declared.shapes.Shape.{Shape}
use Rattle.av_base.specs.Shapes.{columns_of}
use Rattle.av_frame.specs.Rasters.{row_of}
use Rattle.av_frame.specs.Frames.{FrameValue, plane_at}
use Rattle.y4m_io.proofs.RowLemmas.{copied_more}
use Rattle.y4m_io.proofs.rows.copy_rows.Goals as goal

pub loop-i-preserved : goal.loop-i-preserved
loop-i-preserved c =
    let i = c.loop-i.invariant in
    let x = plane_at c.args.frame.now.planes c.args.plane in
    let row = c.args.first + c.loop-i.i in
    let columns = c.plane_size-columns.ensures.columns ∙ ap (λ (s : Shape). columns_of s c.args.plane) c.shape.ensures.shape in
    let sizes = c.shape.ensures.frame.picture.sizes in
    let raster = sizes.rows c.args.plane c.requires.plane in
    let height = sizes.height c.args.plane c.requires.plane in
    let width = sizes.width c.args.plane c.requires.plane in
    let rows = raster.rows_long in
    let read : c.row.new.out ≡ row_of x row = c.row.ensures.out ∙ ap (λ (f : FrameValue). row_of (plane_at f.planes c.args.plane) row) i.same in
    let long : length c.row.new.out ≡ c.plane_size-columns.result.0 = ap length read ∙ (raster.row_long row (omega arith) ∙ (width ∙ sym columns)) in
    record {
      same = c.row.ensures.same ∙ i.same;
      out = copied_more _ c.loop-i.i c.args.first c.args.count c.loop-i.out c.row.new.out x.rows c.loop-i-test.true
          (c.loop-i.auto.out ∙ (c.requires.wide ∙ ap (λ n. c.args.count * n) (sym columns))) long (omega arith) read i.out;
    }
