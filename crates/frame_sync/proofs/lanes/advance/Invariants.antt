use Rattle.frame_sync.specs.Histories.{History}
use Rattle.frame_sync.specs.Lanes.{waiting_count}
use Rattle.frame_sync.specs.Timelines.{Represents}
use Rattle.frame_sync.proofs.lanes.advance.Given as goal

abbrev pub invariant-turns : goal.invariant-turns
invariant-turns l = (h : History) → Represents l.initial.lanes h → Represents l.lanes h

abbrev pub decreases-turns : goal.decreases-turns
decreases-turns l = waiting_count l.lanes
