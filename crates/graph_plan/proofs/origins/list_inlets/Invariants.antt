use Rattle.graph_plan.specs.Joining.{graph_of}
use Rattle.graph_plan.proofs.ScanLemmas.{InletsSoFar}
use Rattle.graph_plan.proofs.origins.list_inlets.Given as goal

abbrev pub invariant-takers : goal.invariant-takers
invariant-takers l = InletsSoFar (graph_of l.parts) l.taker-index l.inlets.items
