use Rattle.std.proofs.Common.{◌≡◌, length, take}
use Rattle.graph_plan.specs.declared.plan.OpenOut.{OpenOut}
use Rattle.graph_plan.specs.Bindings.{names}
use Rattle.graph_plan.specs.Places.{AreCalled}
use Rattle.graph_plan.proofs.CalledLemmas.{number_past}
use Rattle.graph_plan.proofs.called.index_opens.Given as goal

abbrev pub invariant-pads : goal.invariant-pads
invariant-pads l = record {
  called : AreCalled (names (λ (p : OpenOut). p.label) 0 (take l.place l.pads)) l.table;
  numbered : length l.table.numbered.items ≡ number_past (λ (p : OpenOut). p.label) 0 (take l.place l.pads);
}
