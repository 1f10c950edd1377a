use Rattle.std.proofs.Common.{◌<◌, ℕ}
use Rattle.graph_plan.specs.Arranging.{IsMarked}
use Rattle.graph_plan.proofs.bind.first_left.Given as goal

abbrev pub invariant-marks : goal.invariant-marks
invariant-marks l = (o : ℕ) → o < l.place → IsMarked l.marks o
