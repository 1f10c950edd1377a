use Rattle.std.proofs.Common.{◌≡◌, length}
use Rattle.av_frame_tests.specs.Synced.{frames_from}
use Rattle.av_frame_tests.proofs.synced.drop_before.Given as goal

abbrev pub invariant-dropping : goal.invariant-dropping
invariant-dropping l = frames_from l.pts l.queue.items ≡ frames_from l.pts l.fn.queue.items

abbrev pub decreases-dropping : goal.decreases-dropping
decreases-dropping l = length l.queue.items
