use Rattle.std.proofs.Common.{append_assoc}
use Rattle.av_faults.proofs.lines.put_setting.Goals as goal

pub returns-in-TimeBaseRange-clause-text : goal.returns-in-TimeBaseRange-clause-text
returns-in-TimeBaseRange-clause-text c = rw c.in-TimeBaseRange.is (simp (c.put_one.ensures.text, append_assoc))

pub returns-in-NoRate-clause-text : goal.returns-in-NoRate-clause-text
returns-in-NoRate-clause-text c = rw c.in-NoRate.is (simp (c.put_one-in-NoRate.ensures.text, append_assoc))
