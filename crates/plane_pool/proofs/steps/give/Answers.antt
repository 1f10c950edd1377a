use Rattle.plane_pool.proofs.Keeps.{gives_keep}
use Rattle.plane_pool.proofs.steps.give.Goals as goal

pub split_seat-requires : goal.split_seat-requires
split_seat-requires c = let seat = c.args.seat.now in let table = c.args.words.now in (c.requires.table, c.requires.wide, gives_keep table.key seat.id seat.me.0 c.requires.giving)
