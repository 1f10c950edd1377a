use Rattle.graph_node.proofs.SaysLemmas.{node_whole}
use Rattle.graph_node.proofs.node.Node.whole.Goals as goal

pub returns : goal.returns
returns g c whole law asked r b same o h k =
    node_whole g.F.Filter.pads g.F.Filter.rest g.F.Filter.closes g.F.Filter.wants g.F.Filter.over g.F.Filter.accepts whole c.args.self.now
    (g.met.F.Filter.laws c.args.self.now.filter) c.requires.fit law c.requires.idle asked r b same o h k
