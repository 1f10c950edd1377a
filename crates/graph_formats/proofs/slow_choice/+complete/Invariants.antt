use Rattle.std.proofs.Common.{◌-◌, length}
use Rattle.graph_formats.proofs.ListingLemmas.{Completing}
use Rattle.graph_formats.proofs.slow_choice.+complete.Given as goal

abbrev pub decreases-complete : goal.decreases-complete
decreases-complete l = l.links - length l.formats.now.items

abbrev pub invariant-formats : goal.invariant-formats
invariant-formats l = Completing l.links l.wishes l.relations l.initial.formats.items l.formats.items l.format-index
