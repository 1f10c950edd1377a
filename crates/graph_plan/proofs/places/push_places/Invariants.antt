use Rattle.std.proofs.Common.{◌≡◌, ◌++◌}
use Rattle.graph_plan.specs.Graphs.{places_of}
use Rattle.graph_plan.proofs.places.push_places.Given as goal

abbrev pub invariant-pads : goal.invariant-pads
invariant-pads l = l.places.items ≡ l.fn.places.items ++ places_of l.filter 0 l.pad
