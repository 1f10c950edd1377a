use Rattle.std.proofs.Common.{◌<◌, refl, arith, get_or, length}
use Rattle.std.proofs.lemmas.List.{take_more, take_all, length_push}
use Rattle.std.proofs.lemmas.List.Elements.{Contains-get_or}
use Rattle.graph_plan.proofs.ReachLemmas.{marked_none, marked_old, marked_new, unmarked_less}
use Rattle.graph_plan.proofs.order.mark_all.Goals as goal
use Rattle.graph_plan.proofs.order.mark_all.Goals.{then-not-marks-filter+in_ok-push, else-not-marks-filter}

pub filters-init : goal.filters-init
filters-init c = record { marked = marked_none c.args.marks.now c.args.stack.now.items; fewer = refl }

pub bounds-marks-filter : goal.bounds-marks-filter
bounds-marks-filter c = let low = c.requires _ (Contains-get_or c.args.filters.now c.filters.filter-index 0 c.filters-test.true) in let same = c.filters.auto.marks in omega arith

pub bounds-marks-filter-then-not-marks-filter : goal.bounds-marks-filter-then-not-marks-filter
bounds-marks-filter-then-not-marks-filter c = let low = c.requires _ (Contains-get_or c.args.filters.now c.filters.filter-index 0 c.filters-test.true) in let same = c.filters.auto.marks in omega arith

pub filters-preserved : goal.filters-preserved
filters-preserved c =
    let filters = c.args.filters.now in
    let next = get_or filters c.filters.filter-index 0 in
    let low : next < length c.filters.marks = (let is = c.requires _ (Contains-get_or filters c.filters.filter-index 0 c.filters-test.true) in let same = c.filters.auto.marks in omega arith) in
    let so_far = c.filters.invariant in
    elim c.if-not-marks-filter.branch [
      | then-not-marks-filter+in_ok-push w ↦ rw (w.marks-is, w.stack-is, w.in_ok-push.ensures.items, take_more filters c.filters.filter-index 0 c.filters-test.true) (record {
        marked = marked_new c.args.marks.now c.filters.marks c.args.stack.now.items c.filters.stack.items _ next so_far.marked low w.if-not-marks-filter.true;
        fewer = (let before = so_far.fewer in let less = unmarked_less c.filters.marks next low w.if-not-marks-filter.true in omega (arith, before, less, length_push c.filters.stack.items next));
      })
      | else-not-marks-filter w ↦ rw (w.marks-is, w.stack-is, take_more filters c.filters.filter-index 0 c.filters-test.true) (record {
        marked = marked_old c.args.marks.now c.filters.marks c.args.stack.now.items c.filters.stack.items _ next so_far.marked w.if-not-marks-filter.false;
        fewer = so_far.fewer;
      })
    ]

pub returns-clause-marked : goal.returns-clause-marked
returns-clause-marked c = rw (take_all c.filters.filter-index c.args.filters.now c.filters-test.false) at c.filters.invariant.marked
