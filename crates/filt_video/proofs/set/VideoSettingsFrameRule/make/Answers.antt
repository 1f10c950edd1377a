use Rattle.av_filter.specs.Wrappers.{settled_inside}
use Rattle.filt_video.specs.VideoFilters.{video_list, in_options, in_settings}
use Rattle.filt_video.proofs.set.VideoSettingsFrameRule.make.Goals as goal

pub make-requires : goal.make-requires
make-requires c = settled_inside in_options in_settings video_list.making c.args.self.now _ c.requires
