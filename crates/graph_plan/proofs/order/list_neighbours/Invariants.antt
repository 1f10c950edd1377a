use Rattle.std.proofs.Common.{take}
use Rattle.graph_plan.specs.Orders.{Feeds}
use Rattle.graph_plan.specs.Arranging.{AreNeighbours}
use Rattle.graph_plan.proofs.order.list_neighbours.Given as goal

abbrev pub invariant-links : goal.invariant-links
invariant-links l = AreNeighbours (Feeds (take l.link-index l.links)) l.count l.neighbours
