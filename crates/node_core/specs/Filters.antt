-- The filters that work frame by frame, by the crates that have them. Each crate has a list of its filters.
use Rattle.std.specs.Prelude.{refl}
use Rattle.av_filter.specs.JoinedSets.{joined_filters}
use Rattle.av_filter.specs.RuleSets.{Catalogue}
use Rattle.av_filter.specs.Wrappers.{Wrapper, wrapped_filters}
use Rattle.filt_expr.specs.ExprFilters.{expr_filters}
use Rattle.filt_video.specs.VideoFilters.{video_filters}
use Rattle.node_core.specs.declared.filters.FrameFilters.{FrameFilters}
use Rattle.node_core.specs.declared.filters.FrameOptions.{FrameOptions}

abbrev pub all_filters : Catalogue
all_filters = joined_filters expr_filters video_filters

abbrev pub in_options : Wrapper all_filters.Options FrameOptions
in_options = record { inside = λ o. o.options; wrap = λ o. record { options = o }; same = λ o. refl }

abbrev pub in_settings : Wrapper all_filters.Settings FrameFilters
in_settings = record { inside = λ t. t.rule; wrap = λ r. record { rule = r }; same = λ r. refl }

abbrev pub frame_filters : Catalogue
frame_filters = wrapped_filters all_filters in_options in_settings
