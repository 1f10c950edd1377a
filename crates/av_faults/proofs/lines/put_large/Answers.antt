use Rattle.std.proofs.Common.{append_assoc}
use Rattle.av_faults.proofs.lines.put_large.Goals as goal

pub returns-clause-text : goal.returns-clause-text
returns-clause-text c =
    simp (
      c.put_number-3.ensures.text,
      c.put_number-2.ensures.text,
      c.put_number.ensures.text,
      c.from.ensures,
      append_assoc,
    )
