use Rattle.std.proofs.Common.{◌↔◌, ℕ, take}
use Rattle.graph_plan.specs.Orders.{Feeds}
use Rattle.graph_plan.specs.Joining.{IsJoinedBy}
use Rattle.graph_plan.proofs.linking.list_joined.Given as goal

abbrev pub invariant-inlets : goal.invariant-inlets
invariant-inlets l = (giver taker : ℕ) → Feeds l.edges.items giver taker ↔ IsJoinedBy (take l.inlet-index l.inlets) giver taker
