-- The laws of the filters that work frame by frame.
use Rattle.av_filter.specs.JoinedSets.{joined_laws}
use Rattle.av_filter.specs.RuleSets.{CatalogueLaws}
use Rattle.av_filter.specs.Wrappers.{wrapped_laws}
use Rattle.filt_expr.specs.ExprFilterLaws.{expr_filter_laws}
use Rattle.filt_video.specs.VideoFilterLaws.{video_filter_laws}
use Rattle.node_core.specs.Filters.{all_filters, in_options, in_settings, frame_filters}

pub all_filter_laws : CatalogueLaws all_filters
all_filter_laws = joined_laws expr_filter_laws video_filter_laws

pub frame_filter_laws : CatalogueLaws frame_filters
frame_filter_laws = wrapped_laws {c = all_filters} in_options in_settings all_filter_laws
