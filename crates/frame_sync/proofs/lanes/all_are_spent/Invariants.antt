use Rattle.std.proofs.Common.{◌<◌}
use Rattle.frame_sync.specs.Lanes.{LaneValue, IsSpent}
use Rattle.frame_sync.proofs.Loops.{EachBelow}
use Rattle.frame_sync.proofs.lanes.all_are_spent.Given as goal

abbrev pub invariant-lanes : goal.invariant-lanes
invariant-lanes l = EachBelow (λ (x : LaneValue). 0 < x.rule.sync → IsSpent x) l.lanes l.lane-index
