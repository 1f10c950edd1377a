use Rattle.frame_sync.proofs.SlowLemmas.{FoundBelow}
use Rattle.frame_sync.proofs.slow_events.all_events.Given as goal

abbrev pub invariant-times : goal.invariant-times
invariant-times l = FoundBelow l.inputs l.t l.events.items
