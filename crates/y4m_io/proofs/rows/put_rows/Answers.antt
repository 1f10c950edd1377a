use Rattle.std.proofs.Common.{ap, ◌∙◌, arith}
use Rattle.av_base.specs.declared.shapes.Shape.{Shape}
use Rattle.av_base.specs.Shapes.{columns_of}
use Rattle.y4m_io.proofs.RowLemmas.{PutsRows-more}
use Rattle.y4m_io.proofs.rows.put_rows.Goals as goal

pub loop-i-preserved : goal.loop-i-preserved
loop-i-preserved c =
    let columns = c.plane_size-columns.ensures.columns ∙ ap (λ (s : Shape). columns_of s c.args.plane) c.shape.ensures.shape in
    PutsRows-more c.loop-i.invariant c.requires.plane c.args.count _ c.loop-i-test.true c.requires.rows columns c.requires.wide (λ k. omega (arith, c.type_inv.bytes k)) c.set_row.ensures
