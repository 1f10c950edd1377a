use Rattle.std.proofs.Common.{append_assoc}
use Rattle.av_faults.proofs.lines.put_limit.Goals as goal

pub returns-clause-text : goal.returns-clause-text
returns-clause-text c =
    simp (
      c.put_number-2.ensures.text,
      c.put_number.ensures.text,
      c.from.ensures,
      c.put_word.ensures.text,
      c.limit_word.ensures.word,
      append_assoc,
    )
