use Rattle.link_ports.proofs.MoveLemmas.{keeps_flush, rises_flush, flush_still}
use Rattle.graph_node.proofs.LoopLemmas.{not_more}
use Rattle.graph_node.proofs.ports.flush_of.Goals as goal

pub returns-clause-keeps : goal.returns-clause-keeps
returns-clause-keeps c = keeps_flush c.args.port.now c.flush.new.self c.flush.ensures.flushes

pub returns-clause-moved : goal.returns-clause-moved
returns-clause-moved c = λ t. rises_flush c.args.port.now c.flush.new.self c.flush.ensures.flushes (c.flush.ensures.moved.0 t)

pub returns-clause-still : goal.returns-clause-still
returns-clause-still c e = flush_still c.args.port.now c.flush.new.self c.flush.ensures.flushes (not_more _ _ _ e c.flush.ensures.moved.1)
