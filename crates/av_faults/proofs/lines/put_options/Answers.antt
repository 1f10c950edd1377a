use Rattle.std.proofs.Common.{append_assoc}
use Rattle.av_faults.proofs.lines.put_options.Goals as goal

pub returns-in-UnknownFilter-clause-text : goal.returns-in-UnknownFilter-clause-text
returns-in-UnknownFilter-clause-text c = rw c.in-UnknownFilter.is (simp (c.put_one.ensures.text, append_assoc))

pub returns-in-UnknownOption-clause-text : goal.returns-in-UnknownOption-clause-text
returns-in-UnknownOption-clause-text c = rw c.in-UnknownOption.is (simp (c.put_two.ensures.text, append_assoc))

pub returns-in-TooManyValues-clause-text : goal.returns-in-TooManyValues-clause-text
returns-in-TooManyValues-clause-text c = rw c.in-TooManyValues.is (simp (c.put_two-in-TooManyValues.ensures.text, append_assoc))

pub returns-in-BadValue-clause-text : goal.returns-in-BadValue-clause-text
returns-in-BadValue-clause-text c = rw c.in-BadValue.is (simp (c.put_two-in-BadValue.ensures.text, append_assoc))

pub returns-in-MissingOption-clause-text : goal.returns-in-MissingOption-clause-text
returns-in-MissingOption-clause-text c = rw c.in-MissingOption.is (simp (c.put_one-in-MissingOption.ensures.text, append_assoc))
