use Rattle.filter_history.proofs.HistoryLemmas.{stands_offered}
use Rattle.filter_history.proofs.history.offer.Goals as goal

pub returns-in-Ok-clause-ok : goal.returns-in-Ok-clause-ok
returns-in-Ok-clause-ok g c whole h s e = stands_offered _ whole _ _ _ _ _ _ h c.args.input c.args.frame s e c.in-Ok.ensures.rest c.offer.ensures.closes c.offer.ensures.over
