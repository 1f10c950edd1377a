use Rattle.std.proofs.Common.{ap}
use Rattle.graph_node.specs.Ports.{outlet_core}
use Rattle.graph_node.specs.declared.outlet.Outlet.{Outlet}
use Rattle.graph_node.proofs.NodeLemmas.{given_few, given_other, cores_out, rise_out, step_out}
use Rattle.graph_node.proofs.node.Node.give_one.Goals as goal

pub returns-clause-step : goal.returns-clause-step
returns-clause-step g c =
    let a = c.args.self.now in
    step_out g.F.Filter.pads g.F.Filter.rest g.F.Filter.closes g.F.Filter.over g.F.Filter.accepts a c.ask.new.filter c.args.output c.index_mut-outlet.result.now c.ask.new.outlet c.requires.fit c.requires.port c.index_mut-outlet.ensures.value
    c.ask.ensures.gave c.ask.ensures.id c.ask.ensures.grows

pub returns-clause-moved : goal.returns-clause-moved
returns-clause-moved g c e =
    let a = c.args.self.now in
    rise_out a c.ask.new.filter c.args.output c.index_mut-outlet.result.now c.ask.new.outlet c.requires.fit.outs_len c.requires.port c.index_mut-outlet.ensures.value (c.ask.ensures.moved e)

pub returns-clause-still : goal.returns-clause-still
returns-clause-still g c e = cores_out c.args.self.now c.ask.new.filter c.args.output c.index_mut-outlet.result.now c.ask.new.outlet c.index_mut-outlet.ensures.value (ap (λ (x : Outlet). outlet_core x) (c.ask.ensures.same e))

pub returns-clause-few : goal.returns-clause-few
returns-clause-few g c o =
    given_few c.args.self.now c.ask.new.filter c.args.output c.index_mut-outlet.result.now c.ask.new.outlet c.requires.fit.outs_len c.requires.port c.index_mut-outlet.ensures.value c.ask.ensures.few o

pub returns-clause-others : goal.returns-clause-others
returns-clause-others g c o n = given_other c.args.self.now c.ask.new.filter c.args.output c.ask.new.outlet o n
