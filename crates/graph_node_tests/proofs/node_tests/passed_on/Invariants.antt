use Rattle.graph_node.specs.Nodes.{IsSound}
use Rattle.graph_node_tests.proofs.node_tests.passed_on.Given as goal

abbrev pub invariant-loop : goal.invariant-loop
invariant-loop g l = IsSound g.F.Filter.pads g.F.Filter.rest g.F.Filter.closes g.F.Filter.wants g.F.Filter.accepts l.node
