use Rattle.std.proofs.Common.{rules}
use Rattle.filt_video.proofs.TransposeLemmas.{settings_are, large, settled}
use Rattle.filt_video.proofs.transpose.TransposeSettingsFrameRule.settle.Goals as goal

pub returns-in_err-check_shape : goal.returns-in_err-check_shape
returns-in_err-check_shape c =
    let is = settings_are c.args.options.now c.args.shape c.passes.result c.passes.ensures in
    let fault = large c.args.options.now c.args.shape c.out_shape.result _ _ is c.out_shape.ensures.shape c.in_err-check_shape.ensures.large in
    search rules

pub returns : goal.returns
returns c =
    let is = settings_are c.args.options.now c.args.shape c.passes.result c.passes.ensures in
    settled c.args.options.now c.args.shape c.out_shape.result _ is c.out_shape.ensures.shape c.in_ok-check_shape.ensures.small
