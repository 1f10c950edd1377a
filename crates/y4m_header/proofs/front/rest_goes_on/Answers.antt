use Rattle.std.proofs.Common.{arith}
use Rattle.std.proofs.lemmas.List.{nil_from_length}
use Rattle.y4m_header.proofs.FrontLemmas.{nothing_goes}
use Rattle.y4m_header.proofs.front.rest_goes_on.Goals as goal

pub returns-in-empty : goal.returns-in-empty
returns-in-empty c = rw (nil_from_length c.args.rest.now (omega arith)) nothing_goes
