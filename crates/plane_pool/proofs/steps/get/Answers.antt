use Rattle.std.proofs.Common.{arith}
use Rattle.plane_pool.proofs.Keeps.{gets_keep}
use Rattle.plane_pool.proofs.steps.get.Goals as goal

pub load-requires : goal.load-requires
load-requires c = let seat = c.args.seat.now in let table = c.args.words.now in (
  c.requires.table,
  (let lt = c.requires.place in let wide = c.requires.wide in omega arith),
  gets_keep table.key table.table_id.slots seat.id seat.me.0 seat.me.1 c.args.at c.requires.may,
)
