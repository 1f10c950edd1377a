use Rattle.std.proofs.Common.{ℕ, sym, subst}
use Rattle.atomic_table.specs.Table.{Splits}
use Rattle.plane_pool.specs.Slot.{Kept}
use Rattle.plane_pool.specs.Told.{cut_left, cut_right}
use Rattle.plane_pool.proofs.Parts.{cuts_keep}
use Rattle.plane_pool.proofs.steps.cut_as.Goals as goal

pub split_seat-requires : goal.split_seat-requires
split_seat-requires g c = let seat = c.args.seat.now in let table = c.args.words.now in (
  c.requires.table,
  c.requires.wide,
  subst (λ (k : ℕ). Splits (Kept table.key) seat.id seat.me.0 (cut_left k seat.me.0) (cut_right k seat.me.0)) (sym c.requires.give) (cuts_keep table.key seat.id c.args.at seat.me.0 c.requires.cut),
)
