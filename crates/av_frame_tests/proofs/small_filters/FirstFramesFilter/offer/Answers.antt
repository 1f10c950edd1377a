use Rattle.std.proofs.Common.{◌-◌}
use Rattle.av_frame.specs.OneLaws.{one_takes}
use Rattle.av_frame_tests.specs.SmallFilters.{first_stream}
use Rattle.av_frame_tests.proofs.SmallFilterLemmas.{first_takes}
use Rattle.av_frame_tests.proofs.small_filters.FirstFramesFilter.offer.Goals as goal

pub returns-clause-rest : goal.returns-clause-rest
returns-clause-rest c ins r o h =
    let f = c.args.self.now in
    rw c.in_ok-push_back.ensures.items
    (one_takes _ f.waiting.items _ _ (first_stream (f.left - 1)) (first_stream f.left) c.args.input c.args.frame ins o c.requires.port c.requires.open
    (λ s. first_takes f.waiting.items c.args.frame f.left f.has_ended s c.requires.open))
