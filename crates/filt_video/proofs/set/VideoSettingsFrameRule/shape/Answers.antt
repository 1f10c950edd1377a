use Rattle.av_filter.specs.Wrappers.{settled_inside}
use Rattle.filt_video.specs.VideoFilters.{video_list, in_options, in_settings}
use Rattle.filt_video.proofs.set.VideoSettingsFrameRule.shape.Goals as goal

pub shape-requires : goal.shape-requires
shape-requires c = settled_inside in_options in_settings video_list.making c.args.self.now _ c.requires
