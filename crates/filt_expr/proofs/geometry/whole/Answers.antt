use Rattle.av_expr.proofs.FractionLemmas.{over_one}
use Rattle.filt_expr.proofs.geometry.whole.Goals as goal

pub returns-clause-lowest : goal.returns-clause-lowest
returns-clause-lowest c = over_one _
