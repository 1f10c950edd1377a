use Rattle.graph_formats.specs.Demands.{asked_of}
use Rattle.graph_formats.proofs.PartLemmas.{Settling}
use Rattle.graph_formats.proofs.draft.Draft.settle.Given as goal

abbrev pub ghost-attempt : goal.ghost-attempt
ghost-attempt a = record { asked = asked_of a.demands.now; root = a.root; format = a.format; start = a.self.now }

abbrev pub invariant-formats : goal.invariant-formats
invariant-formats l = Settling (asked_of l.demands) l.root l.initial.self l.self l.format-index
