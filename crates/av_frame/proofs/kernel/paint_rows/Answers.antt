use Rattle.std.proofs.Common.{ℕ, ◌<◌, List, ap, sym, subst, ◌∙◌, arith}
use Rattle.av_base.specs.Shapes.{columns_of, rows_of}
use Rattle.av_base.specs.declared.shapes.Shape.{Shape}
use Rattle.av_frame.specs.Rasters.{row_by}
use Rattle.av_frame.specs.Frames.{FrameValue}
use Rattle.av_frame.proofs.PaintLemmas.{HasRows-more, HasRows-all, plane_width}
use Rattle.av_frame.proofs.kernel.paint_rows.Goals as goal

pub paint_row-requires-clause-fits : goal.paint_row-requires-clause-fits
paint_row-requires-clause-fits g c =
    let i = c.loop-row.invariant in
    let wide = plane_width i.painted c.requires.plane in
    let rows = c.plane_size-columns.ensures.rows ∙ ap (λ (s : Shape). rows_of s c.args.plane) c.shape.ensures.shape in
    λ lifetimes outlives k h. subst (λ (s : List FrameValue). g.K.Kernel.fits c.args.kernel.now s c.args.plane c.loop-row.row k) (sym i.sources) (c.requires.fits c.loop-row.row k (omega arith) (omega arith))

pub paint_row-requires-clause-small : goal.paint_row-requires-clause-small
paint_row-requires-clause-small g c =
    let i = c.loop-row.invariant in
    let wide = plane_width i.painted c.requires.plane in
    let rows = c.plane_size-columns.ensures.rows ∙ ap (λ (s : Shape). rows_of s c.args.plane) c.shape.ensures.shape in
    λ lifetimes outlives k h. subst (λ (s : List FrameValue). g.K.Kernel.value c.args.kernel.now s c.args.plane c.loop-row.row k < 256) (sym i.sources) (c.requires.small c.loop-row.row k (omega arith) (omega arith))

pub loop-row-preserved : goal.loop-row-preserved
loop-row-preserved g c =
    let i = c.loop-row.invariant in
    let p = c.args.plane in
    let row = c.loop-row.row in
    let rows = c.plane_size-columns.ensures.rows ∙ ap (λ (s : Shape). rows_of s p) c.shape.ensures.shape in
    let wide = plane_width i.painted c.requires.plane in
    let kernel = c.args.kernel.now in
    record {
      sources = c.paint_row.ensures.same ∙ i.sources;
      painted = HasRows-more i.painted c.requires.plane _ (omega arith)
          (ap (λ (n : ℕ). row_by n (g.K.Kernel.value kernel c.loop-row.sources p row)) wide
          ∙ ap (λ (s : List FrameValue). row_by (columns_of c.args.edit.now.shape p) (g.K.Kernel.value kernel s p row)) i.sources)
          (λ k h. c.requires.small row k (omega arith) h) c.paint_row.ensures.painted;
    }

pub returns-clause-painted : goal.returns-clause-painted
returns-clause-painted g c = HasRows-all c.loop-row.invariant.painted c.requires.plane
    (let rows = c.plane_size-columns.ensures.rows ∙ ap (λ (s : Shape). rows_of s c.args.plane) c.shape.ensures.shape in omega arith)
