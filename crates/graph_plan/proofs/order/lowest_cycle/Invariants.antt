use Rattle.std.proofs.Common.{◌<◌, ◌-◌, ℕ, length}
use Rattle.graph_plan.specs.Orders.{Reaches}
use Rattle.graph_plan.specs.Arranging.{Has}
use Rattle.graph_plan.proofs.order.lowest_cycle.Given as goal

abbrev pub invariant-filters : goal.invariant-filters
invariant-filters l = (other : ℕ) → other < l.filter → Reaches (Has l.takers) other other → ⊥

abbrev pub decreases-filters : goal.decreases-filters
decreases-filters l = length l.initial.marks - l.filter
