use Rattle.std.proofs.Common.{subst, length}
use Rattle.graph_plan.specs.declared.order.Arranged.{Arranged}
use Rattle.graph_plan.specs.Arranging.{IsArranged}
use Rattle.graph_plan.specs.Joining.{graph_of}
use Rattle.graph_plan.proofs.JoinLemmas.{edges_below, filters_in_order, filters_straight, lowest_cycle}
use Rattle.graph_plan.proofs.linking.order_filters.Goals as goal

pub arrange-requires : goal.arrange-requires
arrange-requires c =
    edges_below (graph_of c.args.parts.now) c.requires.fit c.args.inlets.now c.requires.inlets c.as_slice.result.now (rw c.as_slice.ensures.value c.in_ok-joined.ensures)

pub returns-in-Order-clause-order : goal.returns-in-Order-clause-order
returns-in-Order-clause-order c =
    let g = graph_of c.args.parts.now in
    let P : Arranged → Type 0 = λ a. IsArranged c.as_slice.result.now (length g.calls) a in
    filters_in_order g c.requires.fit c.args.inlets.now c.requires.inlets c.as_slice.result.now (rw c.as_slice.ensures.value c.in_ok-joined.ensures) _ (subst P c.in-Order.is c.in_ok-order.ensures)

pub returns-in-Order-clause-straight : goal.returns-in-Order-clause-straight
returns-in-Order-clause-straight c =
    let g = graph_of c.args.parts.now in
    let P : Arranged → Type 0 = λ a. IsArranged c.as_slice.result.now (length g.calls) a in
    filters_straight g c.requires.fit c.args.inlets.now c.requires.inlets c.as_slice.result.now (rw c.as_slice.ensures.value c.in_ok-joined.ensures) _ (subst P c.in-Order.is c.in_ok-order.ensures)

pub returns-clause-fault : goal.returns-clause-fault
returns-clause-fault c outputs sound =
    let g = graph_of c.args.parts.now in
    let P : Arranged → Type 0 = λ a. IsArranged c.as_slice.result.now (length g.calls) a in
    (sound, lowest_cycle g c.requires.fit c.args.inlets.now c.requires.inlets c.as_slice.result.now (rw c.as_slice.ensures.value c.in_ok-joined.ensures) _ (subst P c.in-Cycle.is c.in_ok-order.ensures))
