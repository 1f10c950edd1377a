use Rattle.std.proofs.Common.{ℤ, refl, w64, to_z, of_z}
use Rattle.frame_sync.specs.Framesync.{Input}
use Rattle.frame_sync.specs.SlowEvents.{IsMet}
use Rattle.frame_sync.proofs.Loops.{each_more, each_all, some_here}
use Rattle.frame_sync.proofs.SlowLemmas.{at_value, some_at_value}
use Rattle.frame_sync.proofs.slow_events.one_meets.Goals as goal

pub returns-then-is_met : goal.returns-then-is_met
returns-then-is_met c =
    let h = at_value (λ (t : ℤ). IsMet c.args.inputs.now t c.input-item.result) c.is_met.result c.args.t c.ranges.t c.is_met.ensures in
    ((λ is. some_here (IsMet c.args.inputs.now c.args.t) c.args.inputs.now c.inputs.input-index c.input-item.result c.inputs-test.true c.input-item.is (h.0 c.if-is_met.true)), (λ some. refl))

pub inputs-preserved : goal.inputs-preserved
inputs-preserved c =
    each_more (λ (i : Input). IsMet c.args.inputs.now (to_z w64 (of_z w64 c.args.t)) i → ⊥) c.args.inputs.now c.inputs.input-index c.input-item.result c.inputs-test.true c.input-item.is c.inputs.invariant
    (λ met. let a = c.is_met.ensures.1 met in let b = c.if-is_met.false in absurd (cc))

pub returns : goal.returns
returns c = (
  (λ is. absurd (cc)),
  (λ some.
      let s = some_at_value (IsMet c.args.inputs.now) c.args.inputs.now c.args.t c.ranges.t some in
      absurd (each_all (λ (i : Input). IsMet c.args.inputs.now (to_z w64 (of_z w64 c.args.t)) i → ⊥) c.args.inputs.now c.inputs.input-index c.inputs-test.false c.inputs.invariant s.0 s.1 s.2 s.3)),
)
