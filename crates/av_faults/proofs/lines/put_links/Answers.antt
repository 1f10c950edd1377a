use Rattle.std.proofs.Common.{append_assoc}
use Rattle.av_faults.proofs.lines.put_links.Goals as goal

pub returns-in-PadCount-clause-text : goal.returns-in-PadCount-clause-text
returns-in-PadCount-clause-text c = rw c.in-PadCount.is (simp (c.put_one.ensures.text, append_assoc))

pub returns-in-LabelTwice-clause-text : goal.returns-in-LabelTwice-clause-text
returns-in-LabelTwice-clause-text c = rw c.in-LabelTwice.is (simp (c.put_one-in-LabelTwice.ensures.text, append_assoc))

pub returns-in-UnknownInput-clause-text : goal.returns-in-UnknownInput-clause-text
returns-in-UnknownInput-clause-text c = rw c.in-UnknownInput.is (simp (c.put_one-in-UnknownInput.ensures.text, append_assoc))

pub returns-in-MediaMismatch-clause-text : goal.returns-in-MediaMismatch-clause-text
returns-in-MediaMismatch-clause-text c = rw c.in-MediaMismatch.is (simp (c.put_one-in-MediaMismatch.ensures.text, append_assoc))

pub returns-in-Cycle-clause-text : goal.returns-in-Cycle-clause-text
returns-in-Cycle-clause-text c = rw c.in-Cycle.is (simp (c.put_one-in-Cycle.ensures.text, append_assoc))

pub returns-in-OpenPad-clause-text : goal.returns-in-OpenPad-clause-text
returns-in-OpenPad-clause-text c = rw c.in-OpenPad.is (simp (c.put_two.ensures.text, append_assoc))

pub returns-in-Unmapped-clause-text : goal.returns-in-Unmapped-clause-text
returns-in-Unmapped-clause-text c = rw c.in-Unmapped.is (simp (c.put_two-in-Unmapped.ensures.text, append_assoc))

pub returns-in-NoSuchOutput-clause-text : goal.returns-in-NoSuchOutput-clause-text
returns-in-NoSuchOutput-clause-text c = rw c.in-NoSuchOutput.is (simp (c.put_one-in-NoSuchOutput.ensures.text, append_assoc))

pub returns-in-WrongKind-clause-text : goal.returns-in-WrongKind-clause-text
returns-in-WrongKind-clause-text c = rw c.in-WrongKind.is (simp (c.put_one-in-WrongKind.ensures.text, append_assoc))
