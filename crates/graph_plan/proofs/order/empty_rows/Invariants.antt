use Rattle.std.proofs.Common.{◌≡◌, ℕ, length}
use Rattle.graph_plan.specs.Arranging.{Has}
use Rattle.graph_plan.proofs.order.empty_rows.Given as goal

abbrev pub invariant-rows : goal.invariant-rows
invariant-rows l = record { each : length l.rows.items ≡ l.counter; none : (number item : ℕ) → Has l.rows.items number item → ⊥ }
