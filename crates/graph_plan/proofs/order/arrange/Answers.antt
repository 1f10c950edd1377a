use Rattle.std.proofs.Common.{arith}
use Rattle.std.proofs.lemmas.Result.{IfOk-weaker}
use Rattle.graph_plan.proofs.ArrangeLemmas.{arranging_none, arranging_more, arranging_all, givers_rows, takers_rows, stuck_cycle, named_cycle, first_less, next_low, no_keys}
use Rattle.graph_plan.proofs.order.arrange.Goals as goal

pub begin-requires : goal.begin-requires
begin-requires c = rw c.deref.ensures.value (givers_rows c.args.links.now c.args.count c.in_ok-neighbours.neighbours c.requires c.in_ok-neighbours.ensures)

pub filters-init : goal.filters-init
filters-init c =
    let along = rw c.deref.ensures.value at c.in_ok-progress.ensures.along in
    let ready = rw c.deref.ensures.value at c.in_ok-progress.ensures.ready in
    rw c.new-order.ensures.items (arranging_none c.args.links.now c.args.count c.in_ok-neighbours.neighbours c.in_ok-progress.progress c.in_ok-neighbours.ensures along c.in_ok-progress.ensures.each c.in_ok-progress.ensures.none ready)

pub name_cycle-requires-clause-rows : goal.name_cycle-requires-clause-rows
name_cycle-requires-clause-rows c = rw c.deref-in_default.ensures.value (takers_rows c.args.links.now c.args.count c.in_ok-neighbours.neighbours c.requires c.in_ok-neighbours.ensures)

pub name_cycle-requires-clause-some : goal.name_cycle-requires-clause-some
name_cycle-requires-clause-some c = rw c.deref-in_default.ensures.value (stuck_cycle c.args.links.now c.args.count c.filters.counter c.in_ok-neighbours.neighbours c.filters.order.items c.filters.progress c.requires c.in_ok-neighbours.ensures c.filters.invariant c.filters-test.true (no_keys c.filters.progress.ready.keys c.in_default.ensures.some.1))

pub returns-in_default : goal.returns-in_default
returns-in_default c = IfOk-weaker c.name_cycle.result _ _
    (λ cycle named. named_cycle c.args.links.now c.args.count c.in_ok-neighbours.neighbours cycle c.in_ok-neighbours.ensures (rw c.deref-in_default.ensures.value at named))
    c.name_cycle.ensures

pub complete-requires-clause-takers : goal.complete-requires-clause-takers
complete-requires-clause-takers c = rw c.filters.invariant.all (takers_rows c.args.links.now c.args.count c.in_ok-neighbours.neighbours c.requires c.in_ok-neighbours.ensures)

pub complete-requires-clause-low : goal.complete-requires-clause-low
complete-requires-clause-low c = next_low c.args.links.now c.args.count c.filters.counter c.in-Some.filter c.in_ok-neighbours.neighbours c.filters.order.items c.take_lowest.new.ready.keys c.filters.progress c.filters.invariant c.in-Some.ensures.taken

pub filters-preserved : goal.filters-preserved
filters-preserved c = rw c.in_ok-push.ensures.items (arranging_more c.args.links.now c.args.count c.filters.counter c.in-Some.filter c.in_ok-neighbours.neighbours c.filters.order.items c.take_lowest.new.ready.keys c.filters.progress c.complete.new.progress
    c.requires c.in_ok-neighbours.ensures c.filters.invariant c.in-Some.ensures.taken (first_less c.in-Some.filter c.take_lowest.new.ready.keys c.in-Some.ensures.lowest)
    c.in_ok-complete.ensures.along c.in_ok-complete.ensures.done c.in_ok-complete.ensures.ready)

pub returns : goal.returns
returns c = arranging_all c.args.links.now c.args.count c.filters.counter c.in_ok-neighbours.neighbours c.filters.order.items c.filters.progress c.filters.invariant (let past = c.filters-test.false in let end = c.filters.auto.counter-end in omega arith)
