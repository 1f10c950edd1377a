use Rattle.graph_node.proofs.SaysLemmas.{some_asked}
use Rattle.graph_node.proofs.node.Node.asks.Goals as goal

pub returns : goal.returns
returns g c = some_asked g.F.Filter.pads g.F.Filter.rest g.F.Filter.closes g.F.Filter.wants g.F.Filter.over g.F.Filter.accepts c.args.self.now (g.met.F.Filter.laws c.args.self.now.filter) c.requires.fit c.requires.idle
