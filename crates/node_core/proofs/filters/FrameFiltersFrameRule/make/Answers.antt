use Rattle.av_filter.specs.Wrappers.{settled_inside}
use Rattle.node_core.specs.Filters.{all_filters, in_options, in_settings}
use Rattle.node_core.proofs.filters.FrameFiltersFrameRule.make.Goals as goal

pub make-requires : goal.make-requires
make-requires c = settled_inside in_options in_settings all_filters.making c.args.self.now _ c.requires
