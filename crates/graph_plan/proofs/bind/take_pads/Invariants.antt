use Rattle.std.proofs.Common.{◌≡◌, ◌≤◌, length}
use Rattle.graph_plan.specs.declared.plan.OutputFile.{OutputFile}
use Rattle.graph_plan.specs.Places.{AreFound, MarksThese}
use Rattle.graph_plan.proofs.BindLemmas.{number_at}
use Rattle.graph_plan.proofs.bind.take_pads.Given as goal

abbrev pub invariant-files : goal.invariant-files
invariant-files l = record {
  few : l.number ≤ l.output;
  numbered : l.number ≡ number_at (λ (f : OutputFile). f.label) 0 l.files l.output;
  each : length l.taken.places.items ≡ l.output;
  found : AreFound l.pads l.files l.taken.places.items;
  marked : MarksThese (length l.pads) l.taken.places.items l.taken.marks.items;
}
