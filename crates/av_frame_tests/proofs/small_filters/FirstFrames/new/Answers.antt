use Rattle.std.proofs.Common.{◌==◌, arith, refl}
use Rattle.av_frame.specs.OneLaws.{one_rule_laws}
use Rattle.av_frame_tests.specs.SmallFilters.{first_stream}
use Rattle.av_frame_tests.specs.SmallFilterLaws.{first_laws}
use Rattle.av_frame_tests.proofs.SmallFilterLemmas.{first_none, lawful_take}
use Rattle.av_frame_tests.proofs.small_filters.FirstFrames.new.Goals as goal

pub returns : goal.returns
returns c shape = record {
  pads_are = refl;
  rest_is = λ ins o h. rw c.new.ensures.items (first_none c.args.count (ins 0) (c.args.count == 0) refl);
  accepts_first = λ i x h e. tt;
  begins = (one_rule_laws (first_stream c.args.count) (first_laws c.args.count)).begins;
  lawful = λ ins r o h. lawful_take shape c.args.count (ins 0).frames (r 0 (omega arith));
}
