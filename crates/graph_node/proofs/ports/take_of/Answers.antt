use Rattle.link_ports.proofs.MoveLemmas.{takes_one, took_one}
use Rattle.graph_node.proofs.ports.take_of.Goals as goal

pub returns-clause-some : goal.returns-clause-some
returns-clause-some c = takes_one c.args.port.now c.take.new.self c.in-Some.frame c.in-Some.ensures.some c.in-Some.ensures.taken

pub returns-clause-took : goal.returns-clause-took
returns-clause-took c = took_one c.args.port.now c.take.new.self c.in-Some.frame (takes_one c.args.port.now c.take.new.self c.in-Some.frame c.in-Some.ensures.some c.in-Some.ensures.taken)
