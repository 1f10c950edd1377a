use Rattle.avgraph.proofs.ChainLemmas.{ready_linked}
use Rattle.avgraph.proofs.chain.Chain.new.Goals as goal

pub invariant_of-result : goal.invariant_of-result
invariant_of-result c = λ fresh.
    let ready = c.requires.ready in
    (rw c.deref.ensures.value at c.in_ok-instances.ensures) c.args.shape c.args.end (ready_linked ready.0 c.args.shape c.args.end c.args.readies.items ready.1)
