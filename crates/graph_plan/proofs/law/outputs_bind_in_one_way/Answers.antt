use Rattle.graph_plan.proofs.BoundLemmas.{outputs_bind_in_one_way}
use Rattle.graph_plan.proofs.law.outputs_bind_in_one_way.Goals as goal

pub returns : goal.returns
returns c = outputs_bind_in_one_way
