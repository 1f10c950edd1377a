use Rattle.std.proofs.Common.{sym}
use Rattle.y4m_header.proofs.FrontValues.{aspect_before, aspect_then, aspect_else}
use Rattle.y4m_header.proofs.front.aspect_goes_on.Goals as goal

pub returns-in_default : goal.returns-in_default
returns-in_default c = rw c.is_some.ensures (aspect_before c.args.value.now c.digits.result c.in_default.ensures c.digits.ensures)

pub returns-then-is_some : goal.returns-then-is_some
returns-then-is_some c =
    rw c.is_some-then-is_some.ensures (aspect_then c.number.result c.digits-then-is_some.result c.in-Some.ensures c.number.ensures (sym c.if-is_some.ensures) c.digits-then-is_some.ensures)

pub returns-else-is_some : goal.returns-else-is_some
returns-else-is_some c =
    rw c.if-is_some.false (aspect_else c.number.result c.in-Some.ensures c.number.ensures (sym c.if-is_some.ensures))
