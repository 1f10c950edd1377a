use Rattle.frame_sync.proofs.LawLemmas.{events_are_one}
use Rattle.frame_sync.proofs.law.events_are_one.Goals as goal

pub returns : goal.returns
returns c = events_are_one
