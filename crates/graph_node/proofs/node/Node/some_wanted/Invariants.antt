use Rattle.std.proofs.Common.{◌≡◌, ℕ, ◌<◌, false}
use Rattle.graph_node.specs.Ports.{is_wanted}
use Rattle.graph_node.specs.Nodes.{outlet}
use Rattle.graph_node.specs.declared.outlet.Outlet.{Outlet}
use Rattle.graph_node.proofs.node.Node.some_wanted.Given as goal

abbrev pub invariant-loop-o : goal.invariant-loop-o
invariant-loop-o g l = (o : ℕ) (d : Outlet) → o < l.o → is_wanted (outlet l.self o d) ≡ false
