use Rattle.std.proofs.Common.{refl}
use Rattle.filt_expr.proofs.WorthLemmas.{none_listed}
use Rattle.filt_expr.proofs.worth.worth.Goals as goal

pub returns-in-Err-clause-err : goal.returns-in-Err-clause-err
returns-in-Err-clause-err c = λ f same. (refl, (c.in-Err.field-0, none_listed _ f same _ _ c.in-Err.ensures.none))
