use Rattle.std.proofs.Common.{below_more, arith, rules}
use Rattle.filt_video.specs.Shuffleplanes.{IsFilled}
use Rattle.filt_video.proofs.ShuffleLemmas.{first_refused}
use Rattle.filt_video.proofs.shuffleplanes.check_planes.Goals as goal

pub returns-in_err-check_plane-clause-refused : goal.returns-in_err-check_plane-clause-refused
returns-in_err-check_plane-clause-refused c =
    let fault = first_refused c.args.shape c.args.order.maps c.loop-plane.plane c.in_err-check_plane.field-0.0 c.loop-plane.invariant (omega arith) c.in_err-check_plane.ensures.refused in
    search rules

pub loop-plane-preserved : goal.loop-plane-preserved
loop-plane-preserved c = below_more (IsFilled c.args.shape c.args.order.maps) c.loop-plane.plane c.loop-plane.invariant c.in_ok-check_plane.ensures.sound
