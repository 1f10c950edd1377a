use Rattle.std.proofs.Common.{refl, inl}
use Rattle.filt_video.proofs.set.VideoSettingsFrameRule.settle.Goals as goal

pub returns : goal.returns
returns c = inl (c.in_ok-rule.rule, refl, c.in_ok-rule.ensures)
