use Rattle.std.proofs.Common.{◌≡◌, ◌<ℤ◌, ◌+ℤ◌, ◌∙◌, ℤ, pos, arith, ap, subst, sym, Vec, Global, w64, to_z, of_z}
use Rattle.std.proofs.lemmas.Int.{ints}
use Rattle.frame_sync.proofs.SlowLemmas.{FoundBelow, found_none, found_more, found_same, found_all, is_less, is_from}
use Rattle.frame_sync.proofs.slow_events.all_events.Goals as goal
use Rattle.frame_sync.proofs.slow_events.all_events.Goals.{then-is_event+in_ok-push, else-is_event}

pub times-init : goal.times-init
times-init c = found_none c.args.inputs.now c.new-events.result.items c.new-events.ensures.items

pub times-preserved : goal.times-preserved
times-preserved c =
    let t : ℤ = to_z w64 c.times.t-bits in
    let next : ℤ = to_z w64 (of_z w64 (t +ℤ pos 1)) in
    let less : t <ℤ pos 6 = is_less t (pos 6) c.times-test.true in
    let then : next ≡ t +ℤ pos 1 = omega (arith, ints) in
    elim c.if-is_event.branch [
      | then-is_event+in_ok-push w ↦ found_more c.args.inputs.now t next c.times.events.items c.if-is_event.events.items then (c.is_event.ensures.0 w.if-is_event.true) (ap (λ (v : Vec ℤ Global). v.items) w.events-is ∙ w.in_ok-push.ensures.items) c.times.invariant
      | else-is_event w ↦ subst (λ (v : Vec ℤ Global). FoundBelow c.args.inputs.now next v.items) (sym w.events-is)
          (found_same c.args.inputs.now t next c.times.events.items then (λ event. let a = c.is_event.ensures.1 event in let b = w.if-is_event.false in absurd (cc)) c.times.invariant)
    ]

pub returns : goal.returns
returns c = found_all c.args.inputs.now (to_z w64 c.times.t-bits) c.times.events.items (is_from (to_z w64 c.times.t-bits) (pos 6) c.times-test.false) c.times.invariant
