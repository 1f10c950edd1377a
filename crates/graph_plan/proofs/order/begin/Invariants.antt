use Rattle.std.proofs.Common.{◌<◌}
use Rattle.graph_plan.specs.Arranging.{AreAdded}
use Rattle.graph_plan.proofs.order.begin.Given as goal

abbrev pub invariant-filters : goal.invariant-filters
invariant-filters l = AreAdded l.givers (λ f. f < l.filter) l.initial.progress l.progress
