use Rattle.std.proofs.Common.{append_assoc}
use Rattle.av_faults.proofs.lines.put_fault.Goals as goal

pub returns-in-NoCommonFormat-clause-text : goal.returns-in-NoCommonFormat-clause-text
returns-in-NoCommonFormat-clause-text c = rw c.in-NoCommonFormat.is (simp (c.put_one-in-NoCommonFormat.ensures.text, append_assoc))

pub returns-in-NotMedia-clause-text : goal.returns-in-NotMedia-clause-text
returns-in-NotMedia-clause-text c = rw c.in-NotMedia.is (simp (c.put_one.ensures.text, append_assoc))

pub returns-in-BadHeader-clause-text : goal.returns-in-BadHeader-clause-text
returns-in-BadHeader-clause-text c = rw c.in-BadHeader.is (simp (c.put_one-in-BadHeader.ensures.text, append_assoc))

pub returns-in-BadColour-clause-text : goal.returns-in-BadColour-clause-text
returns-in-BadColour-clause-text c = rw c.in-BadColour.is (simp (c.put_one-in-BadColour.ensures.text, append_assoc))
