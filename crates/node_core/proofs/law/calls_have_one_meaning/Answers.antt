use Rattle.node_core.proofs.LawLemmas.{one_meaning}
use Rattle.node_core.proofs.law.calls_have_one_meaning.Goals as goal

pub returns : goal.returns
returns c = one_meaning
