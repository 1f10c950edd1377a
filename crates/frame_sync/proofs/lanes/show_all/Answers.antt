use Rattle.std.proofs.Common.{ℤ, w64}
use Rattle.std.proofs.lemmas.Int.{to_z-of_z}
use Rattle.frame_sync.specs.Lanes.{LaneValue, Shows}
use Rattle.frame_sync.proofs.Changes.{changed_none, changed_more, changed_all}
use Rattle.frame_sync.proofs.lanes.show_all.Goals as goal

pub lanes-init : goal.lanes-init
lanes-init c = changed_none

pub lanes-preserved : goal.lanes-preserved
lanes-preserved c = changed_more c.lanes.lane-index c.lane-item.result c.show.new.self c.lanes-test.true c.lane-item.is c.show.ensures c.lanes.invariant

pub returns : goal.returns
returns c = changed_all (λ (t : ℤ) (l m : LaneValue). Shows l t m) c.lanes.lane-index (to_z-of_z w64 c.args.pts c.ranges.pts) c.lanes-test.false c.lanes.invariant
