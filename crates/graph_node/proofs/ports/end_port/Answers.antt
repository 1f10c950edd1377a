use Rattle.link_ports.proofs.MoveLemmas.{sends_end}
use Rattle.graph_node.proofs.ports.end_port.Goals as goal

pub returns : goal.returns
returns c = sends_end c.args.port.now c.end.new.self c.requires c.end.ensures
