use Rattle.std.proofs.lemmas.Result.{IfOk-weaker}
use Rattle.graph_plan.specs.Arranging.{Has}
use Rattle.graph_plan.proofs.RowLemmas.{noted_giver, noted_taker, noted_none}
use Rattle.graph_plan.proofs.order.note_link.Goals as goal

pub returns-in_default-clause-givers : goal.returns-in_default-clause-givers
returns-in_default-clause-givers c giver taker = noted_none (Has c.args.neighbours.now.givers.items taker giver) c.args.link.now giver taker (c.in_default.ensures giver taker)

pub returns-in_default-clause-takers : goal.returns-in_default-clause-takers
returns-in_default-clause-takers c giver taker = noted_none (Has c.args.neighbours.now.takers.items giver taker) c.args.link.now giver taker (c.in_default.ensures giver taker)

pub note-requires : goal.note-requires
note-requires c = (c.requires.givers c.in-Some.giver c.in-Some.taker c.in-Some.ensures).1

pub note-requires-2 : goal.note-requires-2
note-requires-2 c = (c.requires.takers c.in-Some.giver c.in-Some.taker c.in-Some.ensures).0

pub returns-clause-givers : goal.returns-clause-givers
returns-clause-givers c = IfOk-weaker c.note-2.result _ _
    (λ _ noted giver taker. noted_giver (Has c.args.neighbours.now.givers.items taker giver) (Has c.note.new.rows.items taker giver) c.args.link.now c.in-Some.giver c.in-Some.taker giver taker c.in-Some.ensures (c.in_ok-note.ensures.noted taker giver))
    c.note-2.ensures.noted

pub returns-clause-takers : goal.returns-clause-takers
returns-clause-takers c = IfOk-weaker c.note-2.result _ _
    (λ _ noted giver taker. noted_taker (Has c.args.neighbours.now.takers.items giver taker) (Has c.note-2.new.rows.items giver taker) c.args.link.now c.in-Some.giver c.in-Some.taker giver taker c.in-Some.ensures (noted giver taker))
    c.note-2.ensures.noted
