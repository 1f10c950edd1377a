-- The filters of this crate, in the order of their names.
use Rattle.std.specs.Prelude.{refl}
use Rattle.av_filter.specs.RuleSets.{Catalogue, only_filter, with_filter}
use Rattle.av_filter.specs.Wrappers.{Wrapper, wrapped_filters}
use Rattle.filt_video.specs.Formats.{format_filter}
use Rattle.filt_video.specs.Hflip.{hflip}
use Rattle.filt_video.specs.Negate.{negate}
use Rattle.filt_video.specs.Null.{null}
use Rattle.filt_video.specs.Shuffleplanes.{shuffleplanes}
use Rattle.filt_video.specs.Transpose.{transpose}
use Rattle.filt_video.specs.Vflip.{vflip}
use Rattle.filt_video.specs.declared.set.VideoOptions.{VideoOptions}
use Rattle.filt_video.specs.declared.set.VideoSettings.{VideoSettings}

abbrev pub video_list : Catalogue
video_list =
    with_filter format_filter (
    with_filter hflip (
    with_filter negate (
    with_filter null (
    with_filter shuffleplanes (
    with_filter transpose (
    only_filter vflip))))))

abbrev pub in_options : Wrapper video_list.Options VideoOptions
in_options = record { inside = λ o. o.options; wrap = λ o. record { options = o }; same = λ o. refl }

abbrev pub in_settings : Wrapper video_list.Settings VideoSettings
in_settings = record { inside = λ t. t.rule; wrap = λ r. record { rule = r }; same = λ r. refl }

abbrev pub video_filters : Catalogue
video_filters = wrapped_filters video_list in_options in_settings
