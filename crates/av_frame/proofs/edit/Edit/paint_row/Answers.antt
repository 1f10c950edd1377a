use Rattle.std.proofs.Common.{arith}
use Rattle.av_frame.proofs.PaintLemmas.{IsPicture-row_by}
use Rattle.av_frame.proofs.edit.Edit.paint_row.Goals as goal

pub invariant_of-self : goal.invariant_of-self
invariant_of-self g c =
    let i = c.self.inside in
    IsPicture-row_by i.shape i.planes.items c.args.self.now c.args.plane c.args.row c.index_mut.result.now c.paint_row.new.self (g.K.Kernel.value c.args.kernel.now c.args.sources.now c.args.plane c.args.row) c.self.view_is c.self.invariant
    c.requires.plane c.index_mut.ensures.value c.paint_row.ensures.painted c.requires.row (λ width k h. c.requires.small k (omega arith))
