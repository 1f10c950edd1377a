use Rattle.av_frame.proofs.RowLemmas.{raster_sample}
use Rattle.av_frame.proofs.plane.Plane.set.Goals as goal

pub returns : goal.returns
returns c =
    let i = c.self.inside in
    raster_sample i.geometry i.page c.write.new.self c.args.row c.args.column c.args.value c.place_of.result c.args.self.now c.self.view_is c.write.ensures c.place_of.ensures c.self.invariant c.requires.row c.requires.column
