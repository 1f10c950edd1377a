-- The laws of the filters of this crate, in the order of their names.
use Rattle.av_filter.specs.RuleSets.{CatalogueLaws, only_laws, with_laws}
use Rattle.av_filter.specs.Wrappers.{wrapped_laws}
use Rattle.filt_video.specs.FormatLaws.{format_laws}
use Rattle.filt_video.specs.Hflip.{hflip_laws}
use Rattle.filt_video.specs.Negate.{negate_laws}
use Rattle.filt_video.specs.Null.{null_laws}
use Rattle.filt_video.specs.OrderLaws.{shuffleplanes_laws}
use Rattle.filt_video.specs.TransposeLaws.{transpose_laws}
use Rattle.filt_video.specs.Vflip.{vflip_laws}
use Rattle.filt_video.specs.VideoFilters.{video_list, in_options, in_settings, video_filters}

pub video_list_laws : CatalogueLaws video_list
video_list_laws =
    with_laws format_laws (
    with_laws hflip_laws (
    with_laws negate_laws (
    with_laws null_laws (
    with_laws shuffleplanes_laws (
    with_laws transpose_laws (
    only_laws vflip_laws))))))

pub video_filter_laws : CatalogueLaws video_filters
video_filter_laws = wrapped_laws {c = video_list} in_options in_settings video_list_laws
