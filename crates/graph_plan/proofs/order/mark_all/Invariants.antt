use Rattle.std.proofs.Common.{◌≡◌, ◌+◌, length, take, not}
use Rattle.std.specs.List.{Contains, count_by}
use Rattle.graph_plan.specs.Arranging.{AreMarked}
use Rattle.graph_plan.proofs.order.mark_all.Given as goal

abbrev pub invariant-filters : goal.invariant-filters
invariant-filters l = record {
  marked : AreMarked (Contains (take l.filter-index l.filters)) l.initial.marks l.marks l.initial.stack.items l.stack.items;
  fewer : count_by not l.marks + length l.stack.items ≡ count_by not l.initial.marks + length l.initial.stack.items;
}
