use Rattle.std.proofs.Common.{arith}
use Rattle.std.proofs.lemmas.Bool.Decides.{nat_tests}
use Rattle.y4m_header.proofs.ValueLemmas.{side_small}
use Rattle.y4m_header.proofs.values.side.Goals as goal

pub returns : goal.returns
returns c = rw (side_small c.args.value.now, ← c.in_ok-side.ensures) (grind (arith, nat_tests))
