use Rattle.frame_sync.specs.Lanes.{LaneValue, Shows}
use Rattle.frame_sync.proofs.Changes.{AreChanged}
use Rattle.frame_sync.proofs.lanes.show_all.Given as goal

abbrev pub invariant-lanes : goal.invariant-lanes
invariant-lanes l = AreChanged (λ (x y : LaneValue). Shows x l.pts y) l.initial.lanes l.lanes l.lane-index
