use Rattle.std.proofs.Common.{arith}
use Rattle.av_frame.proofs.PictureLemmas.{IsPicture-set_row}
use Rattle.av_frame.proofs.edit.Edit.set_row.Goals as goal

pub invariant_of-self : goal.invariant_of-self
invariant_of-self c =
    let i = c.self.inside in
    IsPicture-set_row i.shape i.planes.items c.args.self.now c.args.plane c.args.row c.index_mut.result.now c.set_row.new.self c.args.samples.now c.self.view_is c.self.invariant
    c.requires.plane c.index_mut.ensures.value c.set_row.ensures c.requires.row c.requires.wide (λ k. omega (arith, c.type_inv.samples k))
