use Rattle.std.proofs.Common.{ap, length, arith}
use Rattle.graph_plan.specs.declared.plan.Pads.{Pads}
use Rattle.graph_plan.specs.Graphs.{kinds}
use Rattle.graph_plan.proofs.CountLemmas.{places_more}
use Rattle.graph_plan.proofs.places.pad_places.Goals as goal

pub filters-preserved : goal.filters-preserved
filters-preserved c =
    let more = places_more (λ (p : Pads). length (kinds c.args.side p)) c.args.pads.now c.filters.filter c.index-pads-filter.result (omega (arith, c.filters-test.true, c.filters.auto.filter-end)) in
    let many = ap length c.kinds.ensures in
    let is = c.index-pads-filter.is in
    let next = c.in_ok-places.ensures in
    let before = c.filters.invariant in
    cc
