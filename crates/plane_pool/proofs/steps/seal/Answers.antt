use Rattle.plane_pool.proofs.Keeps.{seals_keep}
use Rattle.plane_pool.proofs.steps.seal.Goals as goal

pub load-requires : goal.load-requires
load-requires c = let seat = c.args.seat.now in let table = c.args.words.now in (
  c.requires.table,
  c.requires.wide,
  seals_keep table.key table.table_id.slots seat.id seat.me.0 seat.me.1 c.requires.full,
)
