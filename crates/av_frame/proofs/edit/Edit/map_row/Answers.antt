use Rattle.av_frame.specs.Rasters.{row_of}
use Rattle.av_frame.proofs.PaintLemmas.{IsPicture-row_by}
use Rattle.av_frame.proofs.edit.Edit.map_row.Goals as goal

pub invariant_of-self : goal.invariant_of-self
invariant_of-self g c =
    let i = c.self.inside in
    let x = c.index_mut.result.now in
    IsPicture-row_by i.shape i.planes.items c.args.self.now c.args.plane c.args.row x c.map_row.new.self (g.M.RowMap.value c.args.map.now c.args.plane (row_of x c.args.row)) c.self.view_is c.self.invariant
    c.requires.plane c.index_mut.ensures.value c.map_row.ensures.mapped c.requires.row (λ width k h. c.map_row.ensures.small k h)
