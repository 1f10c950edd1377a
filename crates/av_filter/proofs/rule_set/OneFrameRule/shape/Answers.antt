use Rattle.av_filter.specs.Wrappers.{settled_inside}
use Rattle.av_filter.specs.JoinedSets.{same_options, in_one}
use Rattle.av_filter.proofs.rule_set.OneFrameRule.shape.Goals as goal

pub shape-requires : goal.shape-requires
shape-requires g c = settled_inside same_options in_one g.A.FrameRule.making c.args.self.now _ c.requires
