use Rattle.std.proofs.Common.{◌≡◌, take}
use Rattle.av_expr.specs.Vars.{together}
use Rattle.av_expr.proofs.vars.VarSet.of.Given as goal

abbrev pub invariant-vars : goal.invariant-vars
invariant-vars l = l.set.bits ≡ together (take l.var-index l.vars)
