use Rattle.std.proofs.Common.{take}
use Rattle.std.specs.List.{AllZip}
use Rattle.node_core.specs.Kinds.{IsKind}
use Rattle.avgraph.proofs.request.kinds_of.Given as goal

abbrev pub invariant-loop-filter : goal.invariant-loop-filter
invariant-loop-filter l = AllZip IsKind (take l.filter l.calls) l.kinds.items
