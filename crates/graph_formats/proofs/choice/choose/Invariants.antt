use Rattle.graph_formats.specs.Demands.{asked_of}
use Rattle.graph_formats.proofs.ChoiceLemmas.{Choosing}
use Rattle.graph_formats.proofs.choice.choose.Given as goal

abbrev pub invariant-links : goal.invariant-links
invariant-links l = Choosing (asked_of l.demands) l.draft l.link
