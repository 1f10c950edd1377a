use Rattle.std.proofs.Common.{◌≡◌, ◌+◌, length, sum_by, take}
use Rattle.graph_plan.specs.declared.plan.Pads.{Pads}
use Rattle.graph_plan.proofs.counts.has_too_many.Given as goal

abbrev pub invariant-filters : goal.invariant-filters
invariant-filters l = l.total ≡ sum_by (λ (p : Pads). length p.ins) (take l.of_filter-index l.pads) + l.outputs
