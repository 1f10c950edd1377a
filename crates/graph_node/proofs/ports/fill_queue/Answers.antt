use Rattle.link_ports.proofs.MoveLemmas.{keeps_fill, keeps_look_in, rises_fill, fill_still}
use Rattle.graph_node.proofs.LoopLemmas.{ok_same, not_more}
use Rattle.graph_node.proofs.ports.fill_queue.Goals as goal

pub returns-in_err-moved-clause-keeps : goal.returns-in_err-moved-clause-keeps
returns-in_err-moved-clause-keeps c = keeps_look_in c.args.port.now c.fill.new.self c.in_err-moved.ensures.refused

pub returns-clause-keeps : goal.returns-clause-keeps
returns-clause-keeps c = keeps_fill c.args.port.now c.fill.new.self c.in_ok-moved.ensures.fills

pub returns-clause-moved : goal.returns-clause-moved
returns-clause-moved c = λ t. rises_fill c.args.port.now c.fill.new.self c.in_ok-moved.ensures.fills (c.in_ok-moved.ensures.moved.0 t)

pub returns-clause-still : goal.returns-clause-still
returns-clause-still c e = fill_still c.args.port.now c.fill.new.self c.in_ok-moved.ensures.fills (not_more _ _ _ (ok_same _ _ e) c.in_ok-moved.ensures.moved.1)
