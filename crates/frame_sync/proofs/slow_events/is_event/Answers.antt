use Rattle.std.proofs.Common.{ℤ}
use Rattle.frame_sync.specs.Framesync.{SomeOne, EachOne}
use Rattle.frame_sync.specs.SlowEvents.{Allows, IsMet}
use Rattle.frame_sync.proofs.SlowLemmas.{at_value, event_is, event_met, event_allowed}
use Rattle.frame_sync.proofs.slow_events.is_event.Goals as goal

pub returns-then-one_meets : goal.returns-then-one_meets
returns-then-one_meets c =
    let met = at_value (λ (t : ℤ). SomeOne c.args.inputs.now (IsMet c.args.inputs.now t)) c.one_meets.result c.args.t c.ranges.t c.one_meets.ensures in
    let allow = at_value (λ (t : ℤ). EachOne c.args.inputs.now (Allows t)) c.all_allow.result c.args.t c.ranges.t c.all_allow.ensures in
    ((λ all. event_is c.args.inputs.now c.args.t (met.0 c.if-one_meets.true) (allow.0 all)), (λ event. allow.1 (event_allowed c.args.inputs.now c.args.t event)))

pub returns-else-one_meets : goal.returns-else-one_meets
returns-else-one_meets c =
    let met = at_value (λ (t : ℤ). SomeOne c.args.inputs.now (IsMet c.args.inputs.now t)) c.one_meets.result c.args.t c.ranges.t c.one_meets.ensures in
    ((λ is. absurd (let a = c.if-one_meets.false in cc)), (λ event. met.1 (event_met c.args.inputs.now c.args.t event)))
