use Rattle.graph_text.proofs.GraphLemmas.{one_graph, one_graph_fault, graph_or_fault}
use Rattle.graph_text.proofs.TotalLemmas.{graph_or_none}
use Rattle.graph_text.proofs.law.graphs_have_one_reading.Goals as goal

pub returns : goal.returns
returns c = record { one_graph = one_graph; one_fault = one_graph_fault; not_both = graph_or_fault; one_of_both = graph_or_none }
