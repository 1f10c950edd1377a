use Rattle.std.proofs.Common.{◌≡◌, ◌<◌, ◌-◌, ℕ, ℤ, length, get_or, refl, sym, subst, arith, rules, w64}
use mir.Val.{SFits}
use Rattle.std.proofs.lemmas.Int.{to_z-of_z}
use Rattle.frame_sync.specs.Lanes.{LaneValue}
use Rattle.frame_sync.proofs.Lasts.{IsBound, back_bound}
use Rattle.frame_sync.proofs.checked.last_time.Goals as goal

pub returns-in-Some-default : goal.returns-in-Some-default
returns-in-Some-default c =
    let l : LaneValue = record { rule = c.lane.inside.rule; latest = c.lane.inside.latest; waiting = c.lane.inside.waiting.items; ended = c.lane.inside.ended; current = c.lane.inside.current } in
    let t : ℤ = c.in-Some-default.last.now in
    let fits : SFits w64 t = search rules in
    let many : c.lane.inside.waiting.len ≡ length c.lane.inside.waiting.items = c.lane.inside.waiting.ok.0 in
    let some : 0 < length l.waiting = (let a = c.in-Some-default.ensures.variant.0 refl in omega arith) in
    let is : t ≡ get_or l.waiting (length l.waiting - 1) t = subst (λ (n : ℕ). t ≡ get_or l.waiting (n - 1) t) many c.in-Some-default.ensures.lookup in
    subst (IsBound c.args.lane.now) (sym (to_z-of_z w64 t fits)) (subst (λ (z : LaneValue). IsBound z t) c.lane.view_is (back_bound l t c.lane.invariant some is))
