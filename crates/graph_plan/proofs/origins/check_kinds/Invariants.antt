use Rattle.std.proofs.Common.{◌≡◌, ◌<◌, ℕ, Some}
use Rattle.std.specs.List.{slice_get}
use Rattle.graph_plan.specs.declared.places.Place.{Place}
use Rattle.graph_plan.specs.declared.places.Side.TheVariants.{In}
use Rattle.graph_plan.specs.Graphs.{pads_on}
use Rattle.graph_plan.specs.Joining.{graph_of, IsMismatched}
use Rattle.graph_plan.proofs.origins.check_kinds.Given as goal

abbrev pub invariant-inlets : goal.invariant-inlets
invariant-inlets l = (j : ℕ) → j < l.inlet-index → (b : Place) → slice_get (pads_on (graph_of l.parts) In) j ≡ Some b → IsMismatched (graph_of l.parts) b → ⊥
