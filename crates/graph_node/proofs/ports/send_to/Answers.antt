use Rattle.link_ports.proofs.MoveLemmas.{sends_item}
use Rattle.graph_node.proofs.ports.send_to.Goals as goal

pub returns-in-Ok-clause-sent : goal.returns-in-Ok-clause-sent
returns-in-Ok-clause-sent c = sends_item c.args.port.now c.send.new.self c.args.frame c.in-Ok.ensures.sent
