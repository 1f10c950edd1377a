use Rattle.std.proofs.Common.{append_assoc}
use Rattle.av_faults.proofs.lines.put_damage.Goals as goal

pub returns-in-BadFrame-clause-text : goal.returns-in-BadFrame-clause-text
returns-in-BadFrame-clause-text c = rw c.in-BadFrame.is (simp (c.put_place.ensures.text, append_assoc))

pub returns-in-Truncated-clause-text : goal.returns-in-Truncated-clause-text
returns-in-Truncated-clause-text c = rw c.in-Truncated.is (simp (c.put_place-in-Truncated.ensures.text, append_assoc))
