use Rattle.av_filter.specs.Wrappers.{settled_inside}
use Rattle.av_filter.specs.JoinedSets.{same_options, in_one}
use Rattle.av_filter.proofs.rule_set.OneFrameRule.make.Goals as goal

pub make-requires : goal.make-requires
make-requires g c = settled_inside same_options in_one g.A.FrameRule.making c.args.self.now _ c.requires
