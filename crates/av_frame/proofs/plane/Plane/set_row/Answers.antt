use Rattle.av_frame.proofs.RowLemmas.{raster_row}
use Rattle.av_frame.proofs.plane.Plane.set_row.Goals as goal

pub returns : goal.returns
returns c =
    let i = c.self.inside in
    raster_row i.geometry i.page c.write.new.self c.args.samples.now c.args.row c.place_of-at.result c.args.self.now c.self.view_is c.write.ensures c.place_of-at.ensures c.self.invariant c.requires.row c.requires.wide
