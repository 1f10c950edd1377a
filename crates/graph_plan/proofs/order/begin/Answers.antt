use Rattle.std.proofs.Common.{◌<◌, ℕ, ◌∙◌, ap, arith, length, false}
use Rattle.std.proofs.lemmas.List.{length-replicate}
use Rattle.graph_plan.proofs.ArrangeLemmas.{along_none, added_none, added_more, one_below, begun, replicate_all}
use Rattle.graph_plan.proofs.order.begin.Goals as goal

pub filters-init : goal.filters-init
filters-init c =
    let done = c.in_ok-done.ensures.items_if_clones_equal (λ y is. is) in
    let next = c.in_ok-next.ensures.items_if_clones_equal (λ y is. is) in
    added_none c.args.givers.now (λ (f : ℕ). f < 0) _ (along_none c.args.givers.now c.args.count _ c.requires done next) (λ f low. let k : f < 0 = low in omega arith)

pub look_at-requires-clause-along : goal.look_at-requires-clause-along
look_at-requires-clause-along c = c.filters.invariant.along

pub look_at-requires-clause-low : goal.look_at-requires-clause-low
look_at-requires-clause-low c =
    let done = c.in_ok-done.ensures.items_if_clones_equal (λ y is. is) in
    let same = ap length c.filters.invariant.same ∙ ap length done ∙ length-replicate c.args.count false in
    omega arith

pub filters-preserved : goal.filters-preserved
filters-preserved c = added_more c.args.givers.now _ _ c.filters.filter _ c.filters.progress c.look_at.new.progress (one_below c.filters.filter) c.filters.invariant c.in_ok-look_at.ensures

pub returns-clause-along : goal.returns-clause-along
returns-clause-along c = c.filters.invariant.along

pub returns-clause-each : goal.returns-clause-each
returns-clause-each c = let done = c.in_ok-done.ensures.items_if_clones_equal (λ y is. is) in ap length c.filters.invariant.same ∙ ap length done ∙ length-replicate c.args.count false

pub returns-clause-none : goal.returns-clause-none
returns-clause-none c filter = let done = c.in_ok-done.ensures.items_if_clones_equal (λ y is. is) in rw (c.filters.invariant.same, done) (replicate_all c.args.count filter false)

pub returns-clause-ready : goal.returns-clause-ready
returns-clause-ready c = begun c.args.givers.now c.args.count c.filters.filter _ c.filters.progress c.filters.invariant c.new-ready.ensures.empty (let past = c.filters-test.false in let end = c.filters.auto.filter-end in omega arith)
