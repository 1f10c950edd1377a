use Rattle.filter_history.proofs.HistoryLemmas.{stands_finished}
use Rattle.filter_history.proofs.history.finish.Goals as goal

pub returns-clause-stands : goal.returns-clause-stands
returns-clause-stands g c whole h s e = stands_finished _ whole _ _ _ _ _ _ h c.args.input s e c.finish.ensures.rest c.finish.ensures.closes c.finish.ensures.closed c.finish.ensures.over
