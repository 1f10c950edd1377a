use Rattle.std.proofs.Common.{take}
use Rattle.std.specs.List.{Contains}
use Rattle.graph_formats.specs.declared.request.Relation.{Relation}
use Rattle.graph_formats.specs.Assignments.{Meets}
use Rattle.graph_formats.proofs.slow_choice.are_met.Given as goal

abbrev pub invariant-relations : goal.invariant-relations
invariant-relations l = (relation : Relation) → Contains (take l.relation-index l.relations) relation → Meets relation l.formats
