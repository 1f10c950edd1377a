use Rattle.std.specs.Prelude.{pos}
use Rattle.filt_expr.proofs.colour.read_sample.Goals as goal

pub returns-in_default-clause-only : goal.returns-in_default-clause-only
returns-in_default-clause-only c = λ n h. absurd (c.in_default.not-Some (pos n) (c.read_whole_within.ensures.only (pos n) h))
