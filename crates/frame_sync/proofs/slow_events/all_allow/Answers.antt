use Rattle.std.proofs.Common.{ℤ, refl, w64, to_z, of_z}
use Rattle.frame_sync.specs.SlowEvents.{Allows}
use Rattle.frame_sync.proofs.Loops.{each_more, each_all}
use Rattle.frame_sync.proofs.SlowLemmas.{at_value, not_each, each_at_value}
use Rattle.frame_sync.proofs.slow_events.all_allow.Goals as goal

pub returns-then-not-allows : goal.returns-then-not-allows
returns-then-not-allows c =
    let h = at_value (λ (t : ℤ). Allows t c.input-item.result) c.allows.result c.args.t c.ranges.t c.allows.ensures in
    ((λ is. absurd (cc)), (λ each. absurd (not_each (Allows c.args.t) c.args.inputs.now c.inputs.input-index c.input-item.result c.inputs-test.true c.input-item.is (λ allows. let a = h.1 allows in let b = c.if-not-allows.true in cc) each)))

pub inputs-preserved : goal.inputs-preserved
inputs-preserved c =
    each_more (Allows (to_z w64 (of_z w64 c.args.t))) c.args.inputs.now c.inputs.input-index c.input-item.result c.inputs-test.true c.input-item.is c.inputs.invariant (c.allows.ensures.0 c.if-not-allows.false)

pub returns : goal.returns
returns c = (
  (λ is. each_at_value Allows c.args.inputs.now c.args.t c.ranges.t (each_all (Allows (to_z w64 (of_z w64 c.args.t))) c.args.inputs.now c.inputs.input-index c.inputs-test.false c.inputs.invariant)),
  (λ each. refl),
)
