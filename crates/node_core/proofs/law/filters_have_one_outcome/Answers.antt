use Rattle.node_core.proofs.LawLemmas.{one_outcome}
use Rattle.node_core.proofs.law.filters_have_one_outcome.Goals as goal

pub returns : goal.returns
returns c = one_outcome
