use Rattle.std.proofs.Common.{◌<ℤ◌, ◌∙◌, ℤ, sym, ap, arith, rules, w64}
use mir.Val.{SFits}
use Rattle.std.proofs.lemmas.Int.{ints, to_z-of_z}
use Rattle.frame_sync.specs.Lanes.{LaneValue}
use Rattle.frame_sync.proofs.Lasts.{IsBound, past_bound}
use Rattle.frame_sync.proofs.checked.takes.Goals as goal

pub returns-then-not-lane : goal.returns-then-not-lane
returns-then-not-lane c = λ less.
    let t : ℤ = c.in-Some.last in
    let bound : IsBound c.args.lane.now t = c.in-Some.ensures in
    let fits : SFits w64 t = search rules in
    let e = to_z-of_z w64 t fits in
    let f = to_z-of_z w64 c.args.pts c.ranges.pts in
    let lt : t <ℤ c.args.pts = grind (arith, ints, e, f) in
    (ap (λ (l : LaneValue). l.ended) (sym c.lane.view_is) ∙ c.if-not-lane.true, past_bound c.args.lane.now t c.args.pts bound lt)
