use Rattle.std.proofs.Common.{arith}
use Rattle.av_frame.proofs.PictureLemmas.{IsPicture-set_part}
use Rattle.av_frame.proofs.edit.Edit.set_part.Goals as goal

pub invariant_of-self : goal.invariant_of-self
invariant_of-self c =
    let i = c.self.inside in
    IsPicture-set_part i.shape i.planes.items c.args.self.now c.args.plane c.args.row c.args.column c.args.samples.now c.index_mut.result.now c.set_part.new.self c.self.view_is c.self.invariant
    c.requires.plane c.index_mut.ensures.value c.set_part.ensures c.requires.row (λ k. omega (arith, c.type_inv.samples k))
