use Rattle.link_ports.proofs.MoveLemmas.{drops}
use Rattle.graph_node.proofs.ports.discard.Goals as goal

pub returns-clause-drops : goal.returns-clause-drops
returns-clause-drops c = drops c.args.port.now c.discard.new.self c.discard.ensures
