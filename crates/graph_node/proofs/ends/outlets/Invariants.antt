use Rattle.std.proofs.Common.{◌≡◌, ◌++◌}
use Rattle.graph_node.specs.Nodes.{AreOutlets}
use Rattle.graph_node.proofs.ends.outlets.Given as goal

abbrev pub invariant-loop-port : goal.invariant-loop-port
invariant-loop-port l = AreOutlets l.yielded l.outs.items × (l.yielded ++ l.port-iterator.rest.items ≡ l.fn.ports.items)
