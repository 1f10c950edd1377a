use Rattle.std.proofs.Common.{rules}
use Rattle.filt_video.proofs.ShuffleLemmas.{rejected, large, settled}
use Rattle.filt_video.proofs.shuffleplanes.PlaneOrderFrameRule.settle.Goals as goal

pub returns-in_err-check_planes : goal.returns-in_err-check_planes
returns-in_err-check_planes c =
    let fault = rejected c.args.options.now c.args.shape _ c.in_err-check_planes.ensures.refused in
    search rules

pub returns-in_err-check_shape : goal.returns-in_err-check_shape
returns-in_err-check_shape c =
    let fault = large c.args.options.now c.args.shape _ c.in_ok-check_planes.ensures.sound c.in_err-check_shape.ensures.large in
    search rules

pub returns : goal.returns
returns c = settled c.args.options.now c.args.shape c.in_ok-check_planes.ensures.sound c.in_ok-check_shape.ensures.small
