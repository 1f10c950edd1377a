use Rattle.plane_pool.proofs.Keeps.{opens_keep}
use Rattle.plane_pool.proofs.steps.sole.Goals as goal

pub compare_exchange-requires : goal.compare_exchange-requires
compare_exchange-requires c = let seat = c.args.seat.now in let table = c.args.words.now in (
  c.requires.table,
  c.requires.wide,
  opens_keep table.key table.table_id.slots seat.id seat.me.0 seat.me.1 c.args.weight c.requires.reference,
)
