use Rattle.std.proofs.Common.{◌≡◌, arith}
use Rattle.av_frame.specs.Frames.{FrameValue}
use Rattle.av_filter.proofs.WholeLemmas.{ready_more}
use Rattle.av_frame_tests.proofs.filter_tests.whole_streams_go_through_any_filter.Goals as goal

pub given_for-requires-clause-ready : goal.given_for-requires-clause-ready
given_for-requires-clause-ready g c κs =
    ready_more (λ (x : FrameValue). x.shape ≡ c.small-shape.result) _ (λ y e. c.in_ok-carded.ensures.accepts_first 0 y (omega arith) e) _ c.in_ok-stream.ensures
