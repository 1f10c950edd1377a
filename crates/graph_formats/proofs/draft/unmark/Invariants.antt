use Rattle.std.proofs.Common.{take}
use Rattle.graph_formats.specs.Walks.{AreUnmarked}
use Rattle.graph_formats.proofs.draft.unmark.Given as goal

abbrev pub invariant-links : goal.invariant-links
invariant-links l = AreUnmarked (take l.link-index l.links) l.initial.marks l.marks
