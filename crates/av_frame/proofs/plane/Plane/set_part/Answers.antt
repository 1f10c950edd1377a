use Rattle.av_frame.proofs.RowLemmas.{raster_part}
use Rattle.av_frame.proofs.plane.Plane.set_part.Goals as goal

pub returns : goal.returns
returns c =
    let i = c.self.inside in
    raster_part i.geometry i.page c.write.new.self c.args.samples.now c.args.row c.args.column c.place_of.result c.args.self.now c.self.view_is c.write.ensures c.place_of.ensures c.self.invariant c.requires.row c.requires.wide
