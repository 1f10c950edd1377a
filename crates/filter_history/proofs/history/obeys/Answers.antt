use Rattle.filter_history.proofs.HistoryLemmas.{new_begins}
use Rattle.filter_history.proofs.history.obeys.Goals as goal

pub returns-clause-begins : goal.returns-clause-begins
returns-clause-begins g c pads rule in_shape out_shape new s t r q b o k = new_begins _ _ _ pads rule in_shape out_shape new s t r q b o k
