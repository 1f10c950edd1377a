use Rattle.av_filter.specs.RuleSets.{or_making}
use Rattle.av_filter.specs.Wrappers.{settled_inside}
use Rattle.av_filter.specs.JoinedSets.{same_options, in_sets}
use Rattle.av_filter.proofs.rule_set.SetsFrameRule.shape.Goals as goal

pub shape-requires : goal.shape-requires
shape-requires g c = settled_inside same_options in_sets (or_making g.A.FrameRule.making g.B.FrameRule.making) c.args.self.now _ c.requires
