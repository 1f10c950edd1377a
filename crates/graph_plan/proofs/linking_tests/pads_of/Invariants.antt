use Rattle.std.proofs.Common.{◌≡◌, ◌<◌, ◌^◌, length}
use Rattle.std.specs.Prelude.{All}
use Rattle.graph_plan.specs.declared.plan.Pads.{Pads}
use Rattle.graph_plan.proofs.linking_tests.pads_of.Given as goal

abbrev pub invariant-calls : goal.invariant-calls
invariant-calls g l = record {
  each : length l.all.items ≡ l.call-index;
  small : All (λ (p : Pads). length p.outs < 2 ^ 32) l.all.items;
}
