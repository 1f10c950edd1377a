use Rattle.std.proofs.Common.{length, arith}
use Rattle.std.proofs.Math.Nat.{one-le-pow}
use Rattle.av_expr.proofs.atoms.decimal.Goals as goal

pub reduce_small-requires-clause-some : goal.reduce_small-requires-clause-some
reduce_small-requires-clause-some c = let some = one-le-pow (length c.args.part.now) 10 (omega arith) in omega (arith, c.pow-scale.ensures)
