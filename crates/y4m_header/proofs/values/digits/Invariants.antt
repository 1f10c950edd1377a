use Rattle.std.proofs.Common.{◌≡◌, ◌<◌, ◌^◌, drop}
use Rattle.y4m_header.specs.Parts.{digits_from}
use Rattle.y4m_header.proofs.values.digits.Given as goal

abbrev pub invariant-loop-byte : goal.invariant-loop-byte
invariant-loop-byte l = (digits_from l.value (drop l.byte-index l.text) ≡ digits_from 0 l.text) × (l.value < 2 ^ 31)
