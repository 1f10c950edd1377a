use Prim.Native.Nat.{◌+◌, ◌*◌}
use Rattle.plane_pool_tests.proofs.thread_tests.+halves.Given as goal

abbrev pub decreases-write_apart : goal.decreases-write_apart
decreases-write_apart g l = 2 * l.count

abbrev pub decreases-front : goal.decreases-front
decreases-front g l = 2 * l.low + 1

abbrev pub decreases-back : goal.decreases-back
decreases-back g l = 2 * l.high + 1
