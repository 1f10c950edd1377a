use Rattle.av_expr.specs.Grammar.{multiplicative}
use Rattle.av_expr.proofs.MarkLemmas.{IsByteAt, operator_at, multiplicative_ascii}
use Rattle.av_expr.proofs.reader.product_operator.Goals as goal

pub returns-in-Some : goal.returns-in-Some
returns-in-Some c =
    let at : IsByteAt c.args.text.now c.as_bytes.result.now c.args.place c.in-Some.byte.now =
    record { same = c.as_bytes.ensures.value; within = c.in-Some.ensures.lookup.0; read = c.in-Some.ensures.lookup.1; utf8 = c.utf8.text } in
    operator_at multiplicative multiplicative_ascii at c.multiplicative.result c.multiplicative.ensures
