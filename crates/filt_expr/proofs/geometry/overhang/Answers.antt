use Rattle.std.proofs.Common.{rules}
use Rattle.std.specs.Prelude.{◌+ℤ◌, pos}
use Rattle.std.specs.Int.{w128}
use Rattle.std.proofs.lemmas.Int.{to_z-of_z, ints}
use Rattle.std.proofs.Common.{arith}
use Rattle.filt_expr.proofs.GeometryLemmas.{shown_saturated}
use Rattle.filt_expr.proofs.geometry.overhang.Goals as goal

pub returns : goal.returns
returns c =
    let start = to_z-of_z w128 c.args.start (search rules) in
    let side = to_z-of_z w128 c.args.side (search rules) in
    let from = to_z-of_z w128 c.from.result (search rules) in
    let sum = to_z-of_z w128 c.saturating_add.result (search rules) in
    let low = c.requires in
    let same = shown_saturated (c.args.start +ℤ pos c.args.input) (omega (arith, ints, low)) in
    rw (← same) (rw (sum, side, c.saturating_add.ensures, start, from, c.from.ensures) at c.misfit.ensures)
