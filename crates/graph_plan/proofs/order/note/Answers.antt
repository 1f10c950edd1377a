use Rattle.std.proofs.Common.{length, refl}
use Rattle.std.proofs.lemmas.Option.{slice_get_read}
use Rattle.graph_plan.proofs.RowLemmas.{has_more}
use Rattle.graph_plan.proofs.order.note.Goals as goal

pub returns-clause-noted : goal.returns-clause-noted
returns-clause-noted c =
    let rows = c.args.rows.now.items in
    let at = slice_get_read rows (length rows) c.args.number c.index_mut.result.now refl c.requires c.index_mut.ensures.value in
    has_more rows c.args.number c.args.item c.index_mut.result.now c.push.new.self c.requires at c.in_ok-push.ensures.items
