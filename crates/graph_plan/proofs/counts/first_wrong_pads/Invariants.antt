use Rattle.std.proofs.Common.{◌<◌, ℕ}
use Rattle.graph_plan.specs.Refusals.{HasWrongPads}
use Rattle.graph_plan.specs.Joining.{graph_of}
use Rattle.graph_plan.proofs.counts.first_wrong_pads.Given as goal

abbrev pub invariant-filters : goal.invariant-filters
invariant-filters l = (other : ℕ) → other < l.filter → HasWrongPads (graph_of l.parts) other → ⊥
