use Rattle.std.proofs.Common.{◌≡◌}
use Rattle.frame_sync.specs.Lanes.{LaneValue, Heads}
use Rattle.frame_sync.proofs.Loops.{EachBelow}
use Rattle.frame_sync.proofs.lanes.one_meets.Given as goal

abbrev pub invariant-lanes : goal.invariant-lanes
invariant-lanes l = EachBelow (λ (x : LaneValue). Heads x l.pts × (x.rule.sync ≡ l.level) → ⊥) l.lanes l.lane-index
