use Rattle.plane_pool.proofs.Laws.{slots_keep}
use Rattle.plane_pool.proofs.law.slots_keep_their_rule.Goals as goal

pub returns : goal.returns
returns c = slots_keep
