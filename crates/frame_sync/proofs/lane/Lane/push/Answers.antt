use Rattle.std.proofs.Common.{ℤ, subst, sym, w64, to_z, of_z}
use Rattle.std.proofs.lemmas.Int.{to_z-of_z}
use Rattle.frame_sync.specs.Lanes.{LaneValue, IsPast}
use Rattle.frame_sync.proofs.Sound.{sound_pushed}
use Rattle.frame_sync.proofs.lane.Lane.push.Goals as goal

pub invariant_of-self-2 : goal.invariant_of-self-2
invariant_of-self-2 c =
    let t : ℤ = to_z w64 (of_z w64 c.args.pts) in
    let old : LaneValue = record { rule = c.self.inside.rule; latest = c.self.inside.latest; waiting = c.self.inside.waiting.items; ended = c.self.inside.ended; current = c.self.inside.current } in
    let past : IsPast old t = subst (λ (l : LaneValue). IsPast l t) (sym c.self.view_is) (subst (λ (z : ℤ). IsPast c.args.self.now z) (sym (to_z-of_z w64 c.args.pts c.ranges.pts)) c.requires) in
    sound_pushed old t c.push_back.new.self.items c.self.invariant past c.in_ok-push_back.ensures.items
