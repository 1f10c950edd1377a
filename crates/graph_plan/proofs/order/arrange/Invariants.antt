use Rattle.graph_plan.proofs.ArrangeLemmas.{Arranging}
use Rattle.graph_plan.proofs.order.arrange.Given as goal

abbrev pub invariant-filters : goal.invariant-filters
invariant-filters l = Arranging l.links l.count l.counter l.neighbours l.order.items l.progress
