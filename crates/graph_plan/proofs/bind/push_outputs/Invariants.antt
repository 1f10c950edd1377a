use Rattle.std.proofs.Common.{◌≡◌, ◌++◌, List, length}
use Rattle.graph_plan.specs.declared.plan.Edge.{Edge}
use Rattle.graph_plan.specs.Places.{AreLinks}
use Rattle.graph_plan.proofs.bind.push_outputs.Given as goal

abbrev pub invariant-places : goal.invariant-places
invariant-places l = (outputs : List Edge) × (l.links.items ≡ l.fn.links.items ++ outputs) × (length outputs ≡ l.output) × AreLinks l.pads l.places outputs
