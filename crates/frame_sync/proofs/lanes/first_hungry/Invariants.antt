use Rattle.frame_sync.specs.Lanes.{LaneValue, IsHungry}
use Rattle.frame_sync.proofs.Loops.{EachBelow}
use Rattle.frame_sync.proofs.lanes.first_hungry.Given as goal

abbrev pub invariant-lanes : goal.invariant-lanes
invariant-lanes l = EachBelow (λ (x : LaneValue). IsHungry x → ⊥) l.lanes l.input
