use Rattle.std.proofs.Common.{arith}
use Rattle.av_frame_tests.proofs.filter_tests.each_gives_on_every_output_what_was_made.Goals as goal

pub offer-requires-clause-accepts : goal.offer-requires-clause-accepts
offer-requires-clause-accepts g c = c.in_ok-carded.ensures.accepts_first 0 c.in_ok-frame.frame (omega arith) c.in_ok-frame.ensures.0
