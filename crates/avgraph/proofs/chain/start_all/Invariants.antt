use Rattle.av_base.specs.declared.shapes.Shape.{Shape}
use Rattle.node_core.specs.contracts.instance.InstanceFilter.TheImpl.{pads-value, rest-value, accepts-value}
use Rattle.avgraph.specs.Chains.{AreLinked}
use Rattle.avgraph.proofs.ChainLemmas.{Started}
use Rattle.avgraph.proofs.chain.start_all.Given as goal

abbrev pub invariant-loop-ready : goal.invariant-loop-ready
invariant-loop-ready l =
    (s t : Shape) → AreLinked s l.readies t
    → Started pads-value.it rest-value.it accepts-value.it s t l.readies l.instances.items l.ready-index
