use Rattle.av_filter.specs.Wrappers.{settled_inside}
use Rattle.filt_expr.specs.ExprFilters.{expr_list, in_options, in_settings}
use Rattle.filt_expr.proofs.set.ExprSettingsFrameRule.shape.Goals as goal

pub shape-requires : goal.shape-requires
shape-requires c = settled_inside in_options in_settings expr_list.making c.args.self.now _ c.requires
