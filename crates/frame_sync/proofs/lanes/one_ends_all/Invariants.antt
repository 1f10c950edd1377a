use Rattle.frame_sync.specs.Lanes.{LaneValue, EndsAll}
use Rattle.frame_sync.proofs.Loops.{EachBelow}
use Rattle.frame_sync.proofs.lanes.one_ends_all.Given as goal

abbrev pub invariant-lanes : goal.invariant-lanes
invariant-lanes l = EachBelow (λ (x : LaneValue). EndsAll x → ⊥) l.lanes l.lane-index
