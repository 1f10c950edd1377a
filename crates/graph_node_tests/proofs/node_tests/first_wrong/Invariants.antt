use Rattle.graph_node.specs.Nodes.{IsSound}
use Rattle.graph_node_tests.proofs.node_tests.first_wrong.Given as goal

abbrev pub invariant-loop-place : goal.invariant-loop-place
invariant-loop-place g l = IsSound g.F.Filter.pads g.F.Filter.rest g.F.Filter.closes g.F.Filter.wants g.F.Filter.accepts l.node
