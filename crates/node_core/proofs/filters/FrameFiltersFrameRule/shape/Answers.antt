use Rattle.av_filter.specs.Wrappers.{settled_inside}
use Rattle.node_core.specs.Filters.{all_filters, in_options, in_settings}
use Rattle.node_core.proofs.filters.FrameFiltersFrameRule.shape.Goals as goal

pub shape-requires : goal.shape-requires
shape-requires c = settled_inside in_options in_settings all_filters.making c.args.self.now _ c.requires
