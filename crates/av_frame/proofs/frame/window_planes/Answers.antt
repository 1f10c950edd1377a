use Rattle.std.proofs.Common.{◌≡◌, ◌<◌, ap, sym, refl, ◌∙◌, arith, length, get_or}
use Rattle.std.proofs.lemmas.List.{get_or_default}
use Rattle.av_base.specs.declared.formats.Format.{Format}
use Rattle.av_base.specs.Planes.{plane_count_of}
use Rattle.av_base.specs.Shapes.{pixel_format_of, planes_of}
use Rattle.av_frame.specs.Rasters.{blank_raster}
use Rattle.av_frame.proofs.PlanesLemmas.{windowed_more, Made-all}
use Rattle.av_frame.proofs.frame.window_planes.Goals as goal

pub loop-plane-preserved : goal.loop-plane-preserved
loop-plane-preserved c =
    let l = c.loop-plane in
    let made = l.invariant in
    let x = get_or l.planes l.plane c.index-planes-plane.result in
    let same : planes_of c.args.shape ≡ planes_of c.args.whole = ap (λ (f : Format). plane_count_of (pixel_format_of f)) c.requires.format in
    let less : l.plane < length l.planes = let a = made.count in let b = c.requires.picture.sizes.count in omega arith in
    windowed_more c.args.whole c.args.x c.args.y _ x c.window.new.self c.place_in-left.result.0 c.place_in-left.result.1 c.plane_size-columns.result.0 c.plane_size-columns.result.1 made less
    (get_or_default l.planes l.plane c.index-planes-plane.result (blank_raster 0 0) less) refl
    c.place_in-left.ensures.column c.place_in-left.ensures.row c.plane_size-columns.ensures.columns c.plane_size-columns.ensures.rows c.window.ensures

pub returns : goal.returns
returns c =
    let same : planes_of c.args.shape ≡ planes_of c.args.whole = ap (λ (f : Format). plane_count_of (pixel_format_of f)) c.requires.format in
    Made-all c.loop-plane.invariant (omega arith) (c.requires.picture.sizes.count ∙ sym same)
