use Rattle.std.proofs.Common.{◌<◌, ap, arith, take, get_or, length}
use Rattle.std.specs.List.{Contains}
use Rattle.std.proofs.lemmas.List.{take_more, take_all}
use Rattle.std.proofs.lemmas.List.Elements.{Contains-get_or}
use Rattle.graph_plan.proofs.ArrangeLemmas.{added_none, added_more, one_pushed}
use Rattle.graph_plan.proofs.order.look_at_all.Goals as goal

pub filters-init : goal.filters-init
filters-init c = added_none c.args.givers.now (Contains (take 0 c.args.filters.now)) c.args.progress.now c.requires.along (λ f here. let k : here.0 < 0 = here.1 in omega arith)

pub look_at-requires-clause-along : goal.look_at-requires-clause-along
look_at-requires-clause-along c = c.filters.invariant.along

pub look_at-requires-clause-low : goal.look_at-requires-clause-low
look_at-requires-clause-low c =
    let low = c.requires.below _ (Contains-get_or c.args.filters.now c.filters.filter-index 0 c.filters-test.true) in
    let same = ap length c.filters.invariant.same in
    omega arith

pub filters-preserved : goal.filters-preserved
filters-preserved c =
    let filters = c.args.filters.now in
    let index = c.filters.filter-index in
    let next = get_or filters index 0 in
    rw (take_more filters index 0 c.filters-test.true)
    (added_more c.args.givers.now _ _ next c.args.progress.now c.filters.progress c.look_at.new.progress (one_pushed (take index filters) next) c.filters.invariant c.in_ok-look_at.ensures)

pub returns : goal.returns
returns c = rw (take_all c.filters.filter-index c.args.filters.now c.filters-test.false) at c.filters.invariant
