use Rattle.frame_sync.proofs.Searches.{EarliestBelow}
use Rattle.frame_sync.proofs.lanes.earliest_time.Given as goal

abbrev pub invariant-lanes : goal.invariant-lanes
invariant-lanes l = EarliestBelow l.lanes l.lane-index l.earliest
