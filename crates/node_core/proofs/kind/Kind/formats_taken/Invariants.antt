use Rattle.node_core.proofs.WishLemmas.{GathersFormats}
use Rattle.node_core.proofs.kind.Kind.formats_taken.Given as goal

abbrev pub invariant-formats : goal.invariant-formats
invariant-formats l = GathersFormats l.self l.set l.format-index
