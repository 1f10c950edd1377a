use Rattle.std.proofs.Common.{◌≡◌, ◌<◌, ◌+◌, ◌^◌, ◌∙◌, ℕ, ℤ, List, Some, Option, sym, subst, ap, rules, w64, to_z, of_z}
use mir.Val.{SFits}
use Rattle.std.specs.List.{slice_get}
use Rattle.std.proofs.lemmas.Int.{to_z-of_z}
use Rattle.frame_sync.specs.declared.stamp.Stamp.{Stamp}
use Rattle.frame_sync.specs.Lanes.{LaneValue, IsSound, next_number}
use Rattle.frame_sync.proofs.Sound.{first_passed, sound_passed, next_fits}
use Rattle.frame_sync.proofs.lane.Lane.pass.Goals as goal
use Rattle.frame_sync.proofs.lane.Lane.pass.Goals.{in-Some, in-None}

pub overflow_add-number : goal.overflow_add-number
overflow_add-number c =
    let e = to_z-of_z w64 c.args.pts c.ranges.pts in
    let t : ℤ = to_z w64 (of_z w64 c.args.pts) in
    let fits : SFits w64 t = subst (SFits w64) (sym e) c.ranges.pts in
    let first = first_passed c.self.inside.waiting.items c.pop_front.new.self.items c.head.result t (c.head.ensures ∙ ap (λ (l : LaneValue). slice_get l.waiting 0) (sym c.self.view_is)) (sym c.ne.ensures ∙ c.if-ne.false) c.pop_front.ensures.rest in
    let few = next_fits c.self.inside.latest c.self.inside.waiting.items t fits (ap (λ (ts : List ℤ). slice_get ts 0) first) c.self.invariant.past c.self.invariant.few in
    let h : c.in-Some.latest.number + 1 < 2 ^ 64 = subst (λ (o : Option Stamp). next_number o < 2 ^ 64) c.in-Some.is few in
    search rules

pub invariant_of-self : goal.invariant_of-self
invariant_of-self c =
    let e = to_z-of_z w64 c.args.pts c.ranges.pts in
    let t : ℤ = to_z w64 (of_z w64 c.args.pts) in
    let fits : SFits w64 t = subst (SFits w64) (sym e) c.ranges.pts in
    let first = first_passed c.self.inside.waiting.items c.pop_front.new.self.items c.head.result t (c.head.ensures ∙ ap (λ (l : LaneValue). slice_get l.waiting 0) (sym c.self.view_is)) (sym c.ne.ensures ∙ c.if-ne.false) c.pop_front.ensures.rest in
    let old : LaneValue = record { rule = c.self.inside.rule; latest = c.self.inside.latest; waiting = c.self.inside.waiting.items; ended = c.self.inside.ended; current = c.self.inside.current } in
    let number : next_number c.self.inside.latest ≡ c.match-self.number = elim c.match-self.branch [
      | in-Some w ↦ ap next_number w.in-Some.is ∙ sym w.number-is
      | in-None w ↦ ap next_number w.in-None.is ∙ sym w.number-is
    ] in
    subst (λ (n : ℕ). IsSound (record old { waiting = c.pop_front.new.self.items; latest = Some (record { number = n; pts = t }) })) number (sound_passed old t c.pop_front.new.self.items c.self.invariant fits first)
