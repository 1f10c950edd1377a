use Rattle.std.proofs.Common.{ℕ, ◌+◌, ◌-◌, ◌%◌, ◌^◌, sym, subst}
use mathlib.Core.Option.{none}
use Rattle.atomic_table.specs.Table.{step, Allows}
use Rattle.plane_pool.specs.Slot.{Kept}
use Rattle.plane_pool.specs.Told.{drops}
use Rattle.plane_pool.proofs.Keeps.{frees_keep}
use Rattle.plane_pool.proofs.steps.release.Goals as goal

pub fetch_sub-requires : goal.fetch_sub-requires
fetch_sub-requires c = let seat = c.args.seat.now in let table = c.args.words.now in (
  c.requires.table,
  c.requires.wide,
  subst (λ (k : ℕ). Allows (Kept table.key) table.table_id.slots seat.id seat.me 0 (λ x. (x + (2 ^ 64 - k)) % 2 ^ 64) (drops (step table.table_id.slots 0 k 0 none) seat.me)) (sym c.requires.weight)
      (frees_keep table.key table.table_id.slots seat.id seat.me.0 seat.me.1 c.requires.free),
)
