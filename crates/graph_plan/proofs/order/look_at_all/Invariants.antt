use Rattle.std.proofs.Common.{take}
use Rattle.std.specs.List.{Contains}
use Rattle.graph_plan.specs.Arranging.{AreAdded}
use Rattle.graph_plan.proofs.order.look_at_all.Given as goal

abbrev pub invariant-filters : goal.invariant-filters
invariant-filters l = AreAdded l.givers (Contains (take l.filter-index l.filters)) l.initial.progress l.progress
