use Rattle.graph_plan.proofs.LawfulLemmas.{plans_are_lawful}
use Rattle.graph_plan.proofs.law.plans_are_lawful.Goals as goal

pub returns : goal.returns
returns c = plans_are_lawful
