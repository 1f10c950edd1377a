use Rattle.std.proofs.Common.{refl}
use Rattle.av_frame.proofs.RowLemmas.{sample_read}
use Rattle.av_frame.proofs.plane.Plane.sample.Goals as goal

pub returns-clause-sample : goal.returns-clause-sample
returns-clause-sample c =
    let i = c.self.inside in
    sample_read i.geometry i.page c.read.new.out c.args.row c.args.column c.place_of.result _ c.args.self.now c.self.view_is c.read.ensures.out refl c.place_of.ensures c.requires.row c.requires.column
