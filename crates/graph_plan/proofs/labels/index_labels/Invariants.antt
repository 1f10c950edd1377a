use Rattle.std.proofs.Common.{take}
use Rattle.graph_plan.specs.Joining.{graph_of, IsNoted, HasSeen}
use Rattle.graph_plan.proofs.labels.index_labels.Given as goal

abbrev pub invariant-labels : goal.invariant-labels
invariant-labels l = HasSeen (graph_of l.parts) l.side (IsNoted l.side l.others) (take l.place-index l.place-items) l.table
