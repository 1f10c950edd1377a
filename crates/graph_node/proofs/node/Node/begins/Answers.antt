use Rattle.graph_node.proofs.SaysLemmas.{node_begins}
use Rattle.graph_node.proofs.node.Node.begins.Goals as goal

pub returns : goal.returns
returns g c whole law asked r b o h =
    node_begins g.F.Filter.pads g.F.Filter.rest g.F.Filter.closes g.F.Filter.wants g.F.Filter.over g.F.Filter.accepts whole c.args.self.now c.requires law asked r b o h
