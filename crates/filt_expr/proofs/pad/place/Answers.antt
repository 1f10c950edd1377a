use Rattle.std.proofs.Common.{rules, refl}
use Rattle.std.specs.Int.{w128}
use Rattle.std.proofs.lemmas.Int.{to_z-of_z}
use Rattle.filt_expr.proofs.GeometryLemmas.{grid_stays}
use Rattle.filt_expr.proofs.PadLemmas.{place_is, place_bad, never}
use Rattle.filt_expr.proofs.pad.place.Goals as goal

pub overhang-requires : goal.overhang-requires
overhang-requires c =
    let start = to_z-of_z w128 c.floor_to-start.result (search rules) in
    let mid = to_z-of_z w128 c.or_middle.result (search rules) in
    rw (start, c.floor_to-start.ensures, mid) (grid_stays c.args.step c.or_middle.result c.or_middle.ensures.low)

pub returns-then-not-ends_in-clause-err : goal.returns-then-not-ends_in-clause-err
returns-then-not-ends_in-clause-err c =
    let start = to_z-of_z w128 c.floor_to-start.result (search rules) in
    let mid = to_z-of_z w128 c.or_middle.result (search rules) in
    let asked = to_z-of_z w128 c.args.asked (search rules) in
    let side = to_z-of_z w128 c.args.side (search rules) in
    let at = rw mid at c.floor_to-start.ensures in
    let middle = rw (asked, side) at c.or_middle.ensures.middle in
    place_bad _ _ _ _ _ _ _ at middle (let test = rw (start, side) at c.if-not-ends_in.ensures.1 in λ fits. never (test fits)) (rw (start, side) at c.overhang.ensures)

pub returns-clause-ok : goal.returns-clause-ok
returns-clause-ok c =
    let start = to_z-of_z w128 c.floor_to-start.result (search rules) in
    let mid = to_z-of_z w128 c.or_middle.result (search rules) in
    let asked = to_z-of_z w128 c.args.asked (search rules) in
    let side = to_z-of_z w128 c.args.side (search rules) in
    let at = rw mid at c.floor_to-start.ensures in
    let middle = rw (asked, side) at c.or_middle.ensures.middle in
    rw start (place_is _ _ _ _ _ _ at middle c.or_middle.ensures.low (rw (start, side) at (c.if-not-ends_in.ensures.0 refl)))
