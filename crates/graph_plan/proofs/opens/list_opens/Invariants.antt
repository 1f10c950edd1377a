use Rattle.std.proofs.Common.{take}
use Rattle.graph_plan.specs.Links.{AreLeft}
use Rattle.graph_plan.specs.Joining.{graph_of}
use Rattle.graph_plan.proofs.opens.list_opens.Given as goal

abbrev pub invariant-givers : goal.invariant-givers
invariant-givers l = AreLeft (graph_of l.parts) (take l.giver-index l.giver-items) l.opens.items
