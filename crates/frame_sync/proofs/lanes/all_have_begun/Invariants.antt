use Rattle.std.proofs.Common.{◌≡◌}
use Rattle.frame_sync.specs.Lanes.{LaneValue, HasBegun}
use Rattle.frame_sync.specs.declared.rules.Before.TheVariants as before
use Rattle.frame_sync.proofs.Loops.{EachBelow}
use Rattle.frame_sync.proofs.lanes.all_have_begun.Given as goal

abbrev pub invariant-lanes : goal.invariant-lanes
invariant-lanes l = EachBelow (λ (x : LaneValue). x.rule.before ≡ before.Stop → HasBegun x l.pts) l.lanes l.lane-index
