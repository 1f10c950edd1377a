use Rattle.frame_sync.proofs.LawLemmas.{events_begin}
use Rattle.frame_sync.proofs.law.events_begin.Goals as goal

pub returns : goal.returns
returns c = events_begin
