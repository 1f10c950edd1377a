use Rattle.avgraph.proofs.CommandLemmas.{created_only}
use Rattle.avgraph.proofs.command.create.Goals as goal

pub returns-in-Err-new-clause-creates : goal.returns-in-Err-new-clause-creates
returns-in-Err-new-clause-creates g c = (tt, created_only c.args.shape c.in-Ok.ensures.created)
