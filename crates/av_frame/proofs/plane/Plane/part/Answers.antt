use Rattle.std.proofs.Common.{length}
use Rattle.av_frame.proofs.RowLemmas.{part_read}
use Rattle.av_frame.proofs.plane.Plane.part.Goals as goal

pub returns-clause-out : goal.returns-clause-out
returns-clause-out c =
    let i = c.self.inside in
    part_read i.geometry i.page c.read.new.out c.args.row c.args.column c.place_of.result (length c.args.out.now) c.args.self.now c.self.view_is c.read.ensures.out c.place_of.ensures c.requires.row c.requires.wide
