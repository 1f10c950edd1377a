use Rattle.std.proofs.Common.{length, arith, sym, ◌∙◌}
use Rattle.std.proofs.lemmas.Bool.{eqb-false}
use Rattle.y4m_header.proofs.ValueLemmas.{small_digits}
use Rattle.y4m_header.proofs.values.number.Goals as goal

pub returns : goal.returns
returns c =
    let some = eqb-false (length c.args.text.now) 0 (sym c.if-is_empty.ensures) in
    c.digits.ensures ∙ small_digits c.args.text.now (omega arith)
