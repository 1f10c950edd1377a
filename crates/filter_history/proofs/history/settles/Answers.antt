use Rattle.filter_history.proofs.HistoryLemmas.{stands_settled}
use Rattle.filter_history.proofs.history.settles.Goals as goal

pub returns : goal.returns
returns g c whole h s i k e all t r q b d o l = stands_settled _ whole _ _ (g.F.Filter.wants c.args._filter.now) _ h (g.met.F.Filter.laws c.args._filter.now) s i k e all t r q b d o l
