use Rattle.std.proofs.Common.{length, sym}
use Rattle.std.proofs.lemmas.Bool.{eqb-true}
use Rattle.std.proofs.lemmas.List.{nil_from_length}
use Rattle.y4m_header.proofs.FrontValues.{scan_empty}
use Rattle.y4m_header.proofs.front.scan_goes_on.Goals as goal

pub returns-then-is_empty : goal.returns-then-is_empty
returns-then-is_empty c = rw (c.if-is_empty.true, nil_from_length c.args.value.now (eqb-true (length c.args.value.now) 0 (sym c.if-is_empty.ensures))) scan_empty
