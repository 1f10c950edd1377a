use Rattle.std.proofs.Common.{◌≡◌, ◌+◌, ◌*◌, ◌<◌, List, length, ap, ◌∙◌, rules, arith}
use Rattle.std.proofs.lemmas.Grind.{div_ceil_times}
use Rattle.av_base.specs.Shapes.{columns_of, rows_of}
use Rattle.av_base.specs.declared.shapes.Shape.{Shape}
use Rattle.av_frame.specs.Frames.{FrameValue}
use Rattle.av_frame.proofs.BandLemmas.{row_copied}
use Rattle.av_frame.proofs.PaintLemmas.{HasRows-all}
use Rattle.av_frame.proofs.kernel.paint_bands.Goals as goal

pub loop-i-preserved : goal.loop-i-preserved
loop-i-preserved g c =
    let p = c.args.plane in
    let row = c.loop-number.number * 32 in
    let i = c.loop-i.i in
    let value = g.K.Kernel.value c.args.kernel.now c.args.sources.now p in
    let rows = c.plane_size-columns.ensures.rows ∙ ap (λ (s : Shape). rows_of s p) c.shape.ensures.shape in
    let wide = c.plane_size-columns.ensures.columns ∙ ap (λ (s : Shape). columns_of s p) c.shape.ensures.shape in
    let low : row + i < rows_of c.args.edit.now.shape p = let few = c.min-count.ensures in let test = c.loop-i-test.true in omega (arith, rows, few, test) in
    let line : length c.loop-number.line ≡ c.plane_size-columns.result.0 = search rules in
    let here : length c.loop-i.line ≡ columns_of c.args.edit.now.shape p = c.loop-i.auto.line ∙ (line ∙ wide) in
    let long : length c.copy_row.new.out ≡ columns_of c.args.edit.now.shape p = c.copy_row.auto.out ∙ here in
    record {
      painted = row_copied c.args.edit.now c.loop-i.edit c.set_row.new.self p value row i c.copy_row.new.out c.loop-i.invariant.painted c.requires.plane low long
          (λ d h. c.copy_row.ensures d (omega (arith, here, h)) ∙ (c.read_band.ensures.band i d c.loop-i-test.true (omega (arith, wide, h)) ∙ ap (λ (s : List FrameValue). g.K.Kernel.value c.args.kernel.now s p (row + i) d) c.loop-number.invariant.sources))
          (λ d h. c.requires.small (row + i) d low h) c.set_row.ensures;
    }

pub returns-clause-painted : goal.returns-clause-painted
returns-clause-painted g c =
    let rows = c.plane_size-columns.ensures.rows ∙ ap (λ (s : Shape). rows_of s c.args.plane) c.shape.ensures.shape in
    let ceil = div_ceil_times c.plane_size-columns.result.1 32 (omega arith) in
    let n = c.div_ceil-number-end.ensures in
    let test = c.loop-number-test.false in
    HasRows-all c.loop-number.invariant.painted c.requires.plane (omega (arith, rows, ceil.0, n, test))
