use Rattle.std.proofs.Common.{refl, inl}
use Rattle.filt_expr.proofs.set.ExprSettingsFrameRule.settle.Goals as goal

pub returns : goal.returns
returns c = inl (c.in_ok-rule.rule, refl, c.in_ok-rule.ensures)
