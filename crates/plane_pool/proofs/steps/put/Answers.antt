use Rattle.std.proofs.Common.{arith}
use Rattle.plane_pool.proofs.Keeps.{puts_keep}
use Rattle.plane_pool.proofs.steps.put.Goals as goal

pub store-requires : goal.store-requires
store-requires c = let seat = c.args.seat.now in let table = c.args.words.now in (
  c.requires.table,
  (let lt = c.requires.place in let wide = c.requires.wide in omega arith),
  puts_keep table.key table.table_id.slots seat.id seat.me.0 seat.me.1 c.args.at c.args.word c.requires.place c.requires.may,
)
