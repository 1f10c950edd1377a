use Rattle.std.proofs.Common.{◌≡◌, length, take}
use Rattle.graph_text.specs.declared.graph.FilterCall.{FilterCall}
use Rattle.graph_plan.specs.Graphs.{labels, places}
use Rattle.graph_plan.proofs.places.label_places.Given as goal

abbrev pub invariant-calls : goal.invariant-calls
invariant-calls l = l.places.items ≡ places (λ (c : FilterCall). length (labels l.side c)) 0 (take l.filter l.calls)
