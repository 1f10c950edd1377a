use Rattle.std.proofs.Common.{◌≡◌, length, take}
use Rattle.graph_plan.specs.declared.plan.Pads.{Pads}
use Rattle.graph_plan.specs.Graphs.{kinds, places}
use Rattle.graph_plan.proofs.places.pad_places.Given as goal

abbrev pub invariant-filters : goal.invariant-filters
invariant-filters l = l.places.items ≡ places (λ (p : Pads). length (kinds l.side p)) 0 (take l.filter l.pads)
