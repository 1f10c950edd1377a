use Rattle.std.proofs.Common.{◌≡◌, ℕ, ◌<◌, true}
use Rattle.graph_node.specs.Ports.{is_done}
use Rattle.graph_node.specs.Nodes.{outlet}
use Rattle.graph_node.specs.declared.outlet.Outlet.{Outlet}
use Rattle.graph_node.proofs.node.Node.all_done.Given as goal

abbrev pub invariant-loop-o : goal.invariant-loop-o
invariant-loop-o g l = (o : ℕ) (d : Outlet) → o < l.o → is_done (outlet l.self o d) ≡ true
