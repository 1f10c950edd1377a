use Rattle.std.proofs.Common.{ap, arith}
use Rattle.av_base.specs.Shapes.{planes_of}
use Rattle.av_frame.proofs.PaintLemmas.{HasPlanes-all}
use Rattle.av_frame.proofs.kernel.paint.Goals as goal

pub returns-clause-painted : goal.returns-clause-painted
returns-clause-painted g c =
    let planes = ap planes_of c.shape.ensures.shape in
    HasPlanes-all c.loop-plane.invariant.painted (omega arith)
