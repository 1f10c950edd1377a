use Rattle.std.proofs.Common.{refl}
use Rattle.y4m_header.proofs.RatioLemmas.{ratio_some}
use Rattle.y4m_header.proofs.read.ratio.Goals as goal

pub unreachable-requires : goal.unreachable-requires
unreachable-requires c =
    let found = ratio_some c.args.num c.args.den c.requires.num c.requires.some c.requires.den in
    c.in-None.ensures.none refl found.0 (rw (c.from.ensures, c.from-2.ensures) found.1)
