use Rattle.av_expr.proofs.ValueLaws.{one_value_law, exact_law}
use Rattle.av_expr.proofs.law.values_are_exact.Goals as goal

pub returns-clause-one : goal.returns-clause-one
returns-clause-one c = one_value_law

pub returns-clause-exact : goal.returns-clause-exact
returns-clause-exact c = exact_law
