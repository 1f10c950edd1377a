use Rattle.std.proofs.Common.{take}
use Rattle.graph_plan.specs.Orders.{AreBelow, Feeds}
use Rattle.graph_plan.proofs.order_tests.are_below.Given as goal

abbrev pub invariant-links : goal.invariant-links
invariant-links l = AreBelow (Feeds (take l.link-index l.links)) l.count
