use Rattle.plan_formats.proofs.PathLemmas.{plans_ask}
use Rattle.plan_formats.proofs.law.plans_ask_of_formats.Goals as goal

pub returns : goal.returns
returns c = plans_ask
