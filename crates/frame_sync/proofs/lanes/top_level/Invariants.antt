use Rattle.frame_sync.proofs.Searches.{TopBelow}
use Rattle.frame_sync.proofs.lanes.top_level.Given as goal

abbrev pub invariant-lanes : goal.invariant-lanes
invariant-lanes l = TopBelow l.lanes l.lane-index l.level
