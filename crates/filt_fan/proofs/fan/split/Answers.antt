use Rattle.filt_fan.proofs.SplitLemmas.{new_split}
use Rattle.filt_fan.proofs.fan.split.Goals as goal

pub returns : goal.returns
returns c = new_split _ _ _ _ _ _ c.in_ok-each.ensures
