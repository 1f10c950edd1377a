use Rattle.std.proofs.Common.{subst, arith, List}
use Rattle.std.proofs.lemmas.List.{take_all}
use Rattle.graph_plan.specs.Arranging.{AreNeighbours}
use Rattle.graph_plan.specs.Orders.{Feeds}
use Rattle.graph_plan.specs.declared.plan.Edge.{Edge}
use Rattle.graph_plan.proofs.RowLemmas.{joins_below, neighbours_none, neighbours_more}
use Rattle.graph_plan.proofs.order.list_neighbours.Goals as goal

pub links-init : goal.links-init
links-init c = neighbours_none c.args.links.now c.args.count _ c.in_ok-givers.ensures.each c.in_ok-takers.ensures.each c.in_ok-givers.ensures.none c.in_ok-takers.ensures.none

pub note_link-requires-clause-givers : goal.note_link-requires-clause-givers
note_link-requires-clause-givers c = rw c.links.invariant.givers_each (joins_below c.args.links.now c.args.count c.links.link-index _ c.requires (omega arith))

pub note_link-requires-clause-takers : goal.note_link-requires-clause-takers
note_link-requires-clause-takers c = rw c.links.invariant.takers_each (joins_below c.args.links.now c.args.count c.links.link-index _ c.requires (omega arith))

pub links-preserved : goal.links-preserved
links-preserved c = neighbours_more c.args.links.now c.links.link-index c.args.count _ c.links.neighbours c.note_link.new.neighbours (omega arith) c.links.invariant
    c.note_link.ensures.givers_each c.note_link.ensures.takers_each c.in_ok-note_link.ensures.givers c.in_ok-note_link.ensures.takers

pub returns : goal.returns
returns c = let P : List Edge → Type 0 = λ xs. AreNeighbours (Feeds xs) c.args.count c.links.neighbours in subst P (take_all c.links.link-index c.args.links.now (omega arith)) c.links.invariant
