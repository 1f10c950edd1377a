use Rattle.std.proofs.Common.{◌<◌, ℕ}
use Rattle.graph_plan.specs.Bindings.{TakesWrong}
use Rattle.graph_plan.proofs.bind.first_wrong.Given as goal

abbrev pub invariant-files : goal.invariant-files
invariant-files l = (k : ℕ) → k < l.output → TakesWrong l.pads l.files k → ⊥
