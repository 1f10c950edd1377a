use Rattle.frame_sync.proofs.Along.{partner_back}
use Rattle.frame_sync.proofs.NextResults.{is_done, is_need}
use Rattle.frame_sync.proofs.Growing.{asks_pushed}
use Rattle.frame_sync.proofs.Turning.{begin_returned}
use Rattle.frame_sync.proofs.law.histories_show.Goals as goal

pub returns : goal.returns
returns c = record {
  rising = λ lanes h s k i e. (partner_back s.keeps k i e).2.rising;
  returned = λ lanes h s. begin_returned s;
  inputs = λ lanes h s. s.keeps.same;
  pushes = asks_pushed;
  done = λ lanes h s done. is_done s done;
  needs = λ lanes h k s lasting first. is_need k s lasting first;
}
