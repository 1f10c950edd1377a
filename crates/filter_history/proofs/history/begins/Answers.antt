use Rattle.filter_history.proofs.HistoryLemmas.{stands_begins}
use Rattle.filter_history.proofs.history.begins.Goals as goal

pub returns : goal.returns
returns g c whole h s r o k = stands_begins _ whole _ _ _ h s r o k
