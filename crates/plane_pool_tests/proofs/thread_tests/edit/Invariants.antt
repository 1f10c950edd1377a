use Rattle.std.proofs.Common.{◌≡◌, length}
use Rattle.plane_pool_tests.proofs.thread_tests.edit.Given as goal

abbrev pub invariant-loop-round : goal.invariant-loop-round
invariant-loop-round l = (length l.plane.content ≡ 64) × (l.plane.words ≡ 64)
