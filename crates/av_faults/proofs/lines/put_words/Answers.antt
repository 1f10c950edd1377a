use Rattle.std.proofs.Common.{append_assoc, codes, ◌∙◌}
use Rattle.std.specs.Fmt.{decimal}
use Rattle.av_faults.proofs.lines.put_words.Goals as goal

pub returns-in-UnknownWord-clause-text : goal.returns-in-UnknownWord-clause-text
returns-in-UnknownWord-clause-text c = rw c.in-UnknownWord.is (c.put_number.ensures.text ∙ append_assoc c.args.line.now.bytes (codes "UnknownWord word=") (decimal c.in-UnknownWord.word))

pub returns-in-MissingValue-clause-text : goal.returns-in-MissingValue-clause-text
returns-in-MissingValue-clause-text c = rw c.in-MissingValue.is (c.put_number-in-MissingValue.ensures.text ∙ append_assoc c.args.line.now.bytes (codes "MissingValue word=") (decimal c.in-MissingValue.word))

pub returns-in-BadNumber-clause-text : goal.returns-in-BadNumber-clause-text
returns-in-BadNumber-clause-text c = rw c.in-BadNumber.is (c.put_number-in-BadNumber.ensures.text ∙ append_assoc c.args.line.now.bytes (codes "BadNumber word=") (decimal c.in-BadNumber.word))

pub returns-in-BadEnding-clause-text : goal.returns-in-BadEnding-clause-text
returns-in-BadEnding-clause-text c = rw c.in-BadEnding.is (c.put_number-in-BadEnding.ensures.text ∙ append_assoc c.args.line.now.bytes (codes "BadEnding word=") (decimal c.in-BadEnding.word))

pub returns-in-SameName-clause-text : goal.returns-in-SameName-clause-text
returns-in-SameName-clause-text c = rw c.in-SameName.is (c.put_number-in-SameName.ensures.text ∙ append_assoc c.args.line.now.bytes (codes "SameName word=") (decimal c.in-SameName.word))
