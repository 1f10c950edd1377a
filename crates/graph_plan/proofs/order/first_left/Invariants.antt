use Rattle.std.proofs.Common.{◌<◌, ℕ, length, slice_index}
use Rattle.graph_plan.specs.Arranging.{IsMarked}
use Rattle.graph_plan.proofs.order.first_left.Given as goal

abbrev pub invariant-filters : goal.invariant-filters
invariant-filters l = (k : ℕ) → k < l.place → k < length l.filters → IsMarked l.done (slice_index l.filters k)
