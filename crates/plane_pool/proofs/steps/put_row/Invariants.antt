use Rattle.std.proofs.Common.{◌≡◌, take}
use Rattle.plane_pool.specs.Told.{row_written_at}
use Rattle.plane_pool.proofs.steps.put_row.Given as goal

abbrev pub invariant-loop-i : goal.invariant-loop-i
invariant-loop-i l = (l.seat.table_id ≡ l.initial.seat.table_id) × (l.seat.id ≡ l.initial.seat.id) × (l.seat.me ≡ (row_written_at l.initial.seat.me.0 l.at (take l.i l.row), l.initial.seat.me.1))
