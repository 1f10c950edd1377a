use Rattle.std.proofs.Common.{refl, inl}
use Rattle.av_filter.proofs.rule_set.OneFrameRule.settle.Goals as goal

pub returns : goal.returns
returns g c = inl (c.in_ok-rule.rule, refl, c.in_ok-rule.ensures)
