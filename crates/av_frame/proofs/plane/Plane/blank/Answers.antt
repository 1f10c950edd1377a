use Rattle.std.proofs.Common.{◌*◌, arith}
use Rattle.av_frame.proofs.RowLemmas.{raster_at-blank}
use Rattle.av_frame.proofs.plane.Plane.blank.Goals as goal

pub returns : goal.returns
returns c =
    let stride = c.div_ceil-stride.result * 8 in
    let ceil = c.div_ceil-stride.ensures in
    let wide = c.requires.width in
    raster_at-blank stride c.args.width c.args.height c.in_ok-page.page (omega arith) (omega arith) c.requires.some c.requires.height c.in_ok-page.ensures
