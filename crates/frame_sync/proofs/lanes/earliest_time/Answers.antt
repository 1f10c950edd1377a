use Rattle.std.proofs.Common.{subst, Option, ℤ}
use Rattle.frame_sync.specs.Lanes.{IsEarlier}
use Rattle.frame_sync.proofs.Searches.{earliest_more, earliest_all}
use Rattle.frame_sync.proofs.lanes.earliest_time.Goals as goal

pub lanes-preserved : goal.lanes-preserved
lanes-preserved c = earliest_more c.args.lanes.now c.lanes.lane-index c.lane-item.result c.lanes.earliest c.earlier-earliest.result c.lanes-test.true c.lane-item.is
    (subst (λ (o : Option ℤ). IsEarlier c.lanes.earliest o c.earlier-earliest.result) c.head.ensures c.earlier-earliest.ensures) c.lanes.invariant

pub returns : goal.returns
returns c = earliest_all c.args.lanes.now c.lanes.lane-index c.lanes.earliest c.lanes-test.false c.lanes.invariant
