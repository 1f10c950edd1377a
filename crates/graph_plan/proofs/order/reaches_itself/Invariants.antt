use Rattle.std.proofs.Common.{◌≡◌, ◌+◌, false, length, not, get_or}
use Rattle.std.specs.List.{count_by}
use Rattle.graph_plan.proofs.ReachLemmas.{Walking}
use Rattle.graph_plan.proofs.order.reaches_itself.Given as goal

abbrev pub invariant-walk : goal.invariant-walk
invariant-walk l = record { walking : Walking l.takers l.filter l.marks l.stack.items; bare : get_or l.marks l.filter false ≡ false }

abbrev pub decreases-walk : goal.decreases-walk
decreases-walk l = count_by not l.marks + length l.stack.items
