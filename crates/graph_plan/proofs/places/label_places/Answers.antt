use Rattle.std.proofs.Common.{ap, length, arith}
use Rattle.graph_text.specs.declared.graph.FilterCall.{FilterCall}
use Rattle.graph_plan.specs.Graphs.{labels}
use Rattle.graph_plan.proofs.CountLemmas.{places_more}
use Rattle.graph_plan.proofs.places.label_places.Goals as goal

pub calls-preserved : goal.calls-preserved
calls-preserved c =
    let more = places_more (λ (call : FilterCall). length (labels c.args.side call)) c.args.calls.now c.calls.filter c.index-calls-filter.result (omega (arith, c.calls-test.true, c.calls.auto.filter-end)) in
    let many = ap length c.labels.ensures in
    let is = c.index-calls-filter.is in
    let next = c.in_ok-places.ensures in
    let before = c.calls.invariant in
    cc
