use Rattle.graph_plan.proofs.OneOfBoth.{graphs_link_in_one_way}
use Rattle.graph_plan.proofs.law.graphs_link_in_one_way.Goals as goal

pub returns : goal.returns
returns c = graphs_link_in_one_way
