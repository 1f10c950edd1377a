use Rattle.av_expr.proofs.AtomLemmas.{no_digit}
use Rattle.av_expr.proofs.atoms.read_part.Goals as goal

pub returns-then-end-place-clause-fault : goal.returns-then-end-place-clause-fault
returns-then-end-place-clause-fault c =
    rw c.fault.ensures (no_digit c.args.text.now c.args.place c.in_ok-end.end c.requires.place.0 c.in_ok-end.ensures.digits.whole c.if-end-place.true)
