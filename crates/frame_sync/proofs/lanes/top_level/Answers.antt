use Rattle.std.proofs.Common.{◌≡◌, ℕ, max, sym, subst, ◌+◌, arith}
use Rattle.frame_sync.proofs.Searches.{TopBelow, top_none, top_more, top_same, top_all}
use Rattle.frame_sync.proofs.lanes.top_level.Goals.{then-waits, else-waits}
use Rattle.frame_sync.proofs.lanes.top_level.Goals as goal

pub lanes-init : goal.lanes-init
lanes-init c = top_none c.args.lanes.now

pub lanes-preserved : goal.lanes-preserved
lanes-preserved c = elim c.if-waits.branch [
  | then-waits w ↦ (
      let is : c.if-waits.level ≡ max c.lanes.level c.lane-item.result.rule.sync = grind (arith, w.max-level.ensures) in
      subst (λ (n : ℕ). TopBelow c.args.lanes.now (c.lanes.lane-index + 1) n) (sym is)
      (top_more c.args.lanes.now c.lanes.lane-index c.lane-item.result c.lanes.level c.lanes-test.true c.lane-item.is (c.waits.ensures.0 w.if-waits.true) c.lanes.invariant)
      )
  | else-waits w ↦ subst (λ (n : ℕ). TopBelow c.args.lanes.now (c.lanes.lane-index + 1) n) (sym w.level-is)
      (top_same c.args.lanes.now c.lanes.lane-index c.lane-item.result c.lanes.level c.lanes-test.true c.lane-item.is (λ some. absurd (let e = c.waits.ensures.1 some in let f = w.if-waits.false in cc)) c.lanes.invariant)
]

pub returns : goal.returns
returns c = top_all c.args.lanes.now c.lanes.lane-index c.lanes.level c.lanes-test.false c.lanes.invariant
