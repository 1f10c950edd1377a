use Rattle.std.proofs.Common.{List, length, ap, subst, arith}
use Rattle.frame_sync.specs.declared.rules.Rule.{Rule}
use Rattle.frame_sync.specs.declared.rules.Before.TheVariants as before
use Rattle.frame_sync.specs.declared.rules.After.TheVariants as after
use Rattle.frame_sync.specs.Lanes.{AreEach}
use Rattle.frame_sync.proofs.Growing.{IsFresh, fresh_none, fresh_more, fresh_all, represents_fresh}
use Rattle.frame_sync.proofs.timeline.Timeline.new.Goals as goal

pub rules-init : goal.rules-init
rules-init c = fresh_none c.new-lanes.result.items c.as_slice-rule-items.result.now c.new-lanes.ensures.items

pub rules-preserved : goal.rules-preserved
rules-preserved c = fresh_more c.rules.lanes.items c.push.new.self.items c.as_slice-rule-items.result.now c.rules.rule-index (record { before = before.Stop; after = after.Stop; sync = 0 }) c.new.result c.rules-test.true
    c.new.ensures c.in_ok-push.ensures.items c.rules.invariant

pub invariant_of-result : goal.invariant_of-result
invariant_of-result c =
    let all = fresh_all c.rules.lanes.items c.as_slice-rule-items.result.now c.rules.rule-index c.rules-test.false c.rules.invariant in
    let same = ap (λ (rs : List Rule). length rs) c.as_slice-rule-items.ensures in
    let many = all.same in
    let few = c.requires in
    omega arith

pub returns : goal.returns
returns c = represents_fresh c.rules.lanes.items c.args.rules
    (subst (AreEach IsFresh c.rules.lanes.items) c.as_slice-rule-items.ensures (fresh_all c.rules.lanes.items c.as_slice-rule-items.result.now c.rules.rule-index c.rules-test.false c.rules.invariant))
