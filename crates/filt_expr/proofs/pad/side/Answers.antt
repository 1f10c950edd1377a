use Rattle.std.proofs.Common.{rules}
use Rattle.filt_expr.proofs.pad.side.Goals as goal

pub returns-in_err-side-clause-err : goal.returns-in_err-side-clause-err
returns-in_err-side-clause-err c = λ f same. let fault = c.in_err-side.ensures.err f same in search rules
