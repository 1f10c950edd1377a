use Rattle.std.proofs.Common.{◌<◌, refl, arith, length, get_or}
use Rattle.std.proofs.lemmas.List.{get_or_default}
use Rattle.av_frame.specs.Rasters.{blank_raster}
use Rattle.av_frame.proofs.PlanesLemmas.{turned_more, Made-all}
use Rattle.av_frame.proofs.frame.turn_planes.Goals as goal

pub loop-plane-preserved : goal.loop-plane-preserved
loop-plane-preserved c =
    let l = c.loop-plane in
    let x = get_or l.planes l.plane c.index-planes-plane.result in
    let less : l.plane < length l.planes = let a = l.invariant.count in let b = c.requires.sizes.count in omega arith in
    turned_more _ x c.upside_down.new.self c.requires l.invariant (omega arith) (get_or_default l.planes l.plane c.index-planes-plane.result (blank_raster 0 0) less) refl c.upside_down.ensures

pub returns : goal.returns
returns c = Made-all c.loop-plane.invariant (omega arith) c.requires.sizes.count
