use Rattle.std.proofs.Common.{◌≡◌, ◌↔◌, ℕ, true, false, length, take, get_or}
use Rattle.graph_plan.specs.Joining.{IsNamedBy}
use Rattle.graph_plan.proofs.turns.mark_named.Given as goal

abbrev pub invariant-inlets : goal.invariant-inlets
invariant-inlets l = record {
  each : length l.taken.items ≡ l.count;
  marked : (file : ℕ) → (get_or l.taken.items file false ≡ true) ↔ IsNamedBy (take l.inlet-index l.inlets) file;
}
