use Rattle.avgraph.proofs.RequestLemmas.{call_refused, kinds_more}
use Rattle.avgraph.proofs.request.kinds_of.Goals as goal

pub returns-in-Err-clause-stop : goal.returns-in-Err-clause-stop
returns-in-Err-clause-stop c =
    rw c.stopped_option.ensures
    (call_refused c.args.calls.now c.loop-filter.kinds.items c.loop-filter.filter c.index-calls-filter.result c.in-Err.error c.loop-filter-test.true c.index-calls-filter.is c.loop-filter.invariant c.in-Err.ensures.refused)

pub loop-filter-preserved : goal.loop-filter-preserved
loop-filter-preserved c =
    rw c.in_ok-push.ensures.items
    (kinds_more c.args.calls.now c.loop-filter.kinds.items c.loop-filter.filter c.index-calls-filter.result c.in-Ok.kind c.loop-filter-test.true c.index-calls-filter.is c.loop-filter.invariant c.in-Ok.ensures.kind)
