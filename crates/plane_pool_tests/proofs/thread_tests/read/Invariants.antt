use Rattle.std.proofs.Common.{◌≡◌, length}
use Rattle.plane_pool_tests.proofs.thread_tests.read.Given as goal

abbrev pub invariant-loop : goal.invariant-loop
invariant-loop l = (length l.plane.content ≡ 64) × (length l.row ≡ 64)
