use Rattle.std.proofs.Common.{rules, subst, List}
use Rattle.graph_node.specs.Nodes.{AreOutlets}
use Rattle.graph_node.proofs.EndLemmas.{outlets_none, outlets_more, next_port, all_ports}
use Rattle.graph_node.proofs.ends.outlets.Goals as goal

pub loop-port-init : goal.loop-port-init
loop-port-init c = (outlets_none c.new-outs.result.items c.new-outs.ensures.items, search rules)

pub loop-port-preserved : goal.loop-port-preserved
loop-port-preserved c = (
  outlets_more c.loop-port.yielded c.loop-port.outs.items c.push.new.self.items c.in-Some.port c.new.result c.loop-port.invariant.0 c.new.ensures.port c.new.ensures.given c.in_ok-push.ensures.items,
  next_port c.loop-port.yielded c.loop-port.port-iterator.rest.items c.next.new.self.rest.items c.args.ports.items c.in-Some.port c.loop-port.invariant.1 c.in-Some.ensures.steps.0,
)

pub returns : goal.returns
returns c =
    subst (λ (l : List _). AreOutlets l c.loop-port.outs.items)
    (all_ports c.loop-port.yielded c.loop-port.port-iterator.rest.items c.args.ports.items c.loop-port.port-iterator.rest.len c.loop-port.invariant.1 c.in-None.ensures.steps.0 c.loop-port.port-iterator.rest.ok.0) c.loop-port.invariant.0
