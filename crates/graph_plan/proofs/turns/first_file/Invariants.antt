use Rattle.std.proofs.Common.{◌≡◌, ◌<◌, ℕ, Some, false, get_or}
use Rattle.std.specs.List.{slice_get}
use Rattle.graph_plan.proofs.turns.first_file.Given as goal

abbrev pub invariant-files : goal.invariant-files
invariant-files l = (other : ℕ) → other < l.file → (slice_get l.files other ≡ Some l.wanted) × (get_or l.taken other false ≡ false) → ⊥
