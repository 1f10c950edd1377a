use Rattle.std.proofs.Common.{◌≡◌, ℕ, ◌+◌, ◌<◌, get_or}
use Rattle.plane_pool.specs.Told.{word_of}
use Rattle.plane_pool.proofs.steps.get_row.Given as goal

abbrev pub invariant-loop-i : goal.invariant-loop-i
invariant-loop-i l = (l.seat.table_id ≡ l.initial.seat.table_id) × (l.seat.id ≡ l.initial.seat.id) × (l.seat.me ≡ l.initial.seat.me)
    × ((k : ℕ) → k < l.i → get_or l.row k 0 ≡ word_of l.initial.seat.me.0 (l.at + k))
