use Rattle.std.proofs.Common.{refl, arith}
use Rattle.std.specs.Int.{w128}
use Rattle.std.proofs.lemmas.Int.{to_z_pos, ints}
use Rattle.av_expr.proofs.FractionLemmas.{small_fits}
use Rattle.av_expr.proofs.fraction.reduce_small.Goals as goal

pub reduce-requires : goal.reduce-requires
reduce-requires c = λ e. omega (arith, ints, c.requires)

pub unreachable-requires : goal.unreachable-requires
unreachable-requires c =
    let bad = c.in-None.ensures.none refl in
    bad.2 (small_fits (rw (to_z_pos w128 c.args.num c.requires.num, to_z_pos w128 c.args.den c.requires.den) at bad.1) c.requires.num c.requires.den)

pub returns : goal.returns
returns c = rw (to_z_pos w128 c.args.num c.requires.num, to_z_pos w128 c.args.den c.requires.den) at c.in-Some.ensures.fraction
