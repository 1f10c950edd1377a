use Rattle.graph_plan.proofs.PathLemmas.{plans_are_paths}
use Rattle.graph_plan.proofs.law.plans_of_single_filters_are_paths.Goals as goal

pub returns : goal.returns
returns c = plans_are_paths
