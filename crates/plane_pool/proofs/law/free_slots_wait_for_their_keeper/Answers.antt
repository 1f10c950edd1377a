use Rattle.plane_pool.proofs.Laws.{free_slots_wait}
use Rattle.plane_pool.proofs.law.free_slots_wait_for_their_keeper.Goals as goal

pub returns : goal.returns
returns c = free_slots_wait
