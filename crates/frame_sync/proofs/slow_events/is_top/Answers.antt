use Rattle.std.proofs.Common.{ℤ, refl, w64, to_z, of_z}
use Rattle.frame_sync.specs.SlowEvents.{IsBelow}
use Rattle.frame_sync.proofs.Loops.{each_more, each_all}
use Rattle.frame_sync.proofs.SlowLemmas.{at_value, not_each, each_at_value}
use Rattle.frame_sync.proofs.slow_events.is_top.Goals as goal

pub returns-then-not-is_below : goal.returns-then-not-is_below
returns-then-not-is_below c =
    let h = at_value (λ (t : ℤ). IsBelow t c.args.sync c.input-item.result) c.is_below.result c.args.t c.ranges.t c.is_below.ensures in
    ((λ is. absurd (cc)), (λ each. absurd (not_each (IsBelow c.args.t c.args.sync) c.args.inputs.now c.inputs.input-index c.input-item.result c.inputs-test.true c.input-item.is (λ below. let a = h.1 below in let b = c.if-not-is_below.true in cc) each)))

pub inputs-preserved : goal.inputs-preserved
inputs-preserved c =
    each_more (IsBelow (to_z w64 (of_z w64 c.args.t)) c.args.sync) c.args.inputs.now c.inputs.input-index c.input-item.result c.inputs-test.true c.input-item.is c.inputs.invariant (c.is_below.ensures.0 c.if-not-is_below.false)

pub returns : goal.returns
returns c = (
  (λ is. each_at_value (λ (t : ℤ). IsBelow t c.args.sync) c.args.inputs.now c.args.t c.ranges.t (each_all (IsBelow (to_z w64 (of_z w64 c.args.t)) c.args.sync) c.args.inputs.now c.inputs.input-index c.inputs-test.false c.inputs.invariant)),
  (λ each. refl),
)
