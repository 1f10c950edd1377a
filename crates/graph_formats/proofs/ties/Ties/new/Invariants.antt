use Rattle.std.proofs.Common.{take}
use Rattle.graph_formats.specs.Demands.{AreTied}
use Rattle.graph_formats.proofs.ties.Ties.new.Given as goal

abbrev pub invariant-relations : goal.invariant-relations
invariant-relations l = AreTied l.links (take l.relation-index l.relations) l.all
