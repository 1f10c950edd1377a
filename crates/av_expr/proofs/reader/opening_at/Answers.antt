use Rattle.std.proofs.Common.{arith}
use Rattle.av_expr.proofs.MarkLemmas.{IsByteAt, stands_at}
use Rattle.av_expr.proofs.reader.opening_at.Goals as goal

pub returns-in-Some-eq43 : goal.returns-in-Some-eq43
returns-in-Some-eq43 c =
    let at : IsByteAt c.args.text.now c.as_bytes.result.now c.args.place c.in-Some-eq43.field-0.now =
    record { same = c.as_bytes.ensures.value; within = c.in-Some-eq43.ensures.lookup.0; read = c.in-Some-eq43.ensures.lookup.1; utf8 = c.utf8.text } in
    rw c.in-Some-eq43.field-0-test at (stands_at at (omega (arith, c.in-Some-eq43.field-0-test)))

pub returns-in-Some-eq45 : goal.returns-in-Some-eq45
returns-in-Some-eq45 c =
    let at : IsByteAt c.args.text.now c.as_bytes.result.now c.args.place c.in-Some-eq45.field-0.now =
    record { same = c.as_bytes.ensures.value; within = c.in-Some-eq45.ensures.lookup.0; read = c.in-Some-eq45.ensures.lookup.1; utf8 = c.utf8.text } in
    rw c.in-Some-eq45.field-0-test at (stands_at at (omega (arith, c.in-Some-eq45.field-0-test)))

pub returns-in-Some-eq40 : goal.returns-in-Some-eq40
returns-in-Some-eq40 c =
    let at : IsByteAt c.args.text.now c.as_bytes.result.now c.args.place c.in-Some-eq40.field-0.now =
    record { same = c.as_bytes.ensures.value; within = c.in-Some-eq40.ensures.lookup.0; read = c.in-Some-eq40.ensures.lookup.1; utf8 = c.utf8.text } in
    rw c.in-Some-eq40.field-0-test at (stands_at at (omega (arith, c.in-Some-eq40.field-0-test)))
