use Rattle.node_core.specs.contracts.instance.InstanceFilter.TheImpl.{pads-value, rest-value, accepts-value}
use Rattle.avgraph.proofs.ChainLemmas.{to_start, all_started, none_started}
use Rattle.avgraph.proofs.chain.start_all.Goals as goal

pub loop-ready-init : goal.loop-ready-init
loop-ready-init c = λ s t linked. rw c.new-instances.ensures.items (none_started pads-value.it rest-value.it accepts-value.it s t c.args.readies.now linked)

pub loop-ready-preserved : goal.loop-ready-preserved
loop-ready-preserved c = λ s t linked.
    let next = to_start pads-value.it rest-value.it accepts-value.it s t c.args.readies.now c.loop-ready.instances.items c.loop-ready.ready-index c.ready-item.result c.ready-item.is c.loop-ready-test.true (c.loop-ready.invariant s t linked) in
    rw c.in_ok-push.ensures.items (next.starts c.in_ok-start.field-0 (c.in_ok-start.ensures next.shape next.out next.ins next.outs))

pub returns : goal.returns
returns c = λ s t linked.
    all_started pads-value.it rest-value.it accepts-value.it s t c.args.readies.now c.loop-ready.instances.items c.loop-ready.ready-index c.loop-ready-test.false (c.loop-ready.invariant s t linked)
