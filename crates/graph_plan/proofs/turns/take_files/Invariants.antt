use Rattle.std.proofs.Common.{take}
use Rattle.graph_plan.specs.Joining.{graph_of}
use Rattle.graph_plan.proofs.TurnLemmas.{TakenSoFar}
use Rattle.graph_plan.proofs.turns.take_files.Given as goal

abbrev pub invariant-inlets : goal.invariant-inlets
invariant-inlets l = TakenSoFar (graph_of l.parts) (take l.inlet-index l.inlets) l.links.items l.taken.items
