use Rattle.plane_pool.proofs.Parts.{mends_keep}
use Rattle.plane_pool.proofs.steps.mend.Goals as goal

pub join_seat-requires : goal.join_seat-requires
join_seat-requires c = let seat = c.args.seat.now in let table = c.args.words.now in
    (c.requires.table.0, c.requires.table.1, c.requires.empty, c.requires.wide, mends_keep table.key seat.id seat.me.0 c.args.other.id c.args.other.me.0 c.requires.mend)
