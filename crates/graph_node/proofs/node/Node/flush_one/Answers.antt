use Rattle.link_ports.specs.Moves.{FlushDone}
use Rattle.graph_node.specs.declared.outlet.Outlet.{Outlet}
use Rattle.graph_node.proofs.NodeLemmas.{given_same, cores_out, read_is, set_others, rise_out, step_out, gave_none}
use Rattle.graph_node.proofs.LoopLemmas.{ok_moved}
use Rattle.graph_node.proofs.node.Node.flush_one.Goals as goal

pub returns-clause-step : goal.returns-clause-step
returns-clause-step g c =
    let a = c.args.self.now in
    step_out g.F.Filter.pads g.F.Filter.rest g.F.Filter.closes g.F.Filter.over g.F.Filter.accepts a a.filter c.args.output c.index_mut.result.now c.flush.new.self c.requires.fit c.requires.port c.index_mut.ensures.value
    (gave_none g.F.Filter.pads g.F.Filter.rest g.F.Filter.closes g.F.Filter.over g.F.Filter.accepts a.filter c.args.output _ _ c.flush.ensures.given) c.flush.ensures.id c.flush.ensures.grows

pub returns-clause-moved : goal.returns-clause-moved
returns-clause-moved g c e =
    let a = c.args.self.now in
    rise_out a a.filter c.args.output c.index_mut.result.now c.flush.new.self c.requires.fit.outs_len c.requires.port c.index_mut.ensures.value (ok_moved _ _ e c.flush.ensures.moved)

pub returns-clause-still : goal.returns-clause-still
returns-clause-still g c e = cores_out c.args.self.now c.args.self.now.filter c.args.output c.index_mut.result.now c.flush.new.self c.index_mut.ensures.value (c.flush.ensures.still e).0

pub returns-clause-done : goal.returns-clause-done
returns-clause-done g c e q h = read_is (λ (x : Outlet). FlushDone x.port) c.args.self.now.outs.items c.args.output c.index_mut.result.now q c.index_mut.ensures.value h (c.flush.ensures.still e).1

pub returns-clause-others : goal.returns-clause-others
returns-clause-others g c j n = set_others c.args.self.now.outs.items c.args.output j c.flush.new.self n

pub returns-clause-given : goal.returns-clause-given
returns-clause-given g c o =
    given_same c.args.self.now c.args.self.now.filter c.args.output c.index_mut.result.now c.flush.new.self c.requires.fit.outs_len c.requires.port c.index_mut.ensures.value c.flush.ensures.given o
