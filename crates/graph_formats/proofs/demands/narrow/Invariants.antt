use Rattle.std.proofs.Common.{take}
use Rattle.graph_formats.specs.Demands.{AreNarrowed}
use Rattle.graph_formats.proofs.demands.narrow.Given as goal

abbrev pub invariant-wishes : goal.invariant-wishes
invariant-wishes l = AreNarrowed l.links (take l.wish-index l.wishes) l.sets.items
