use Rattle.std.proofs.Common.{◌≡◌, ◌++◌, take, length}
use Rattle.graph_node.specs.Nodes.{AreInlets}
use Rattle.graph_node.proofs.ends.inlets.Given as goal

abbrev pub invariant-loop-port : goal.invariant-loop-port
invariant-loop-port l = AreInlets (take (length l.ins.items) l.shapes) l.yielded l.ins.items × (l.yielded ++ l.port-iterator.rest.items ≡ l.fn.ports.items)
