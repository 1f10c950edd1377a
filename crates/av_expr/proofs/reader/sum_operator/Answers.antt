use Rattle.av_expr.specs.Grammar.{additive}
use Rattle.av_expr.proofs.MarkLemmas.{IsByteAt, operator_at, additive_ascii}
use Rattle.av_expr.proofs.reader.sum_operator.Goals as goal

pub returns-in-Some : goal.returns-in-Some
returns-in-Some c =
    let at : IsByteAt c.args.text.now c.as_bytes.result.now c.args.place c.in-Some.byte.now =
    record { same = c.as_bytes.ensures.value; within = c.in-Some.ensures.lookup.0; read = c.in-Some.ensures.lookup.1; utf8 = c.utf8.text } in
    operator_at additive additive_ascii at c.additive.result c.additive.ensures
