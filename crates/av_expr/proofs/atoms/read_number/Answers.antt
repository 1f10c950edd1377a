use Rattle.std.proofs.Common.{◌≡◌, ◌==◌, ◌+◌, true, drop, lit<, rules}
use Rattle.std.specs.Prelude.{slice_index}
use Rattle.av_expr.specs.Grammar.{NoDigits, NoNumber}
use Rattle.av_expr.specs.Reading.{FailsAt}
use Rattle.av_text.proofs.Places.{begins_at}
use Rattle.std.proofs.lemmas.Result.{err_from_is_err_and}
use Rattle.av_expr.proofs.AtomLemmas.{short_range, part_fault}
use Rattle.av_expr.proofs.atoms.read_number.Goals as goal
use Rattle.av_text.proofs.NumberLemmas.{digits_of_run}
use Rattle.av_base.proofs.FailureLemmas.{fault_passed}

pub digits_number-requires-clause-digits : goal.digits_number-requires-clause-digits
digits_number-requires-clause-digits c = rw (c.as_bytes-digits.ensures.value, c.range.ensures.value) (digits_of_run _ c.in_ok-end.ensures.digits.each)

pub decimal-requires-clause-digits : goal.decimal-requires-clause-digits
decimal-requires-clause-digits c = rw (c.as_bytes-digits.ensures.value, c.range.ensures.value) (digits_of_run _ c.in_ok-end.ensures.digits.each)

pub decimal-requires-clause-part : goal.decimal-requires-clause-part
decimal-requires-clause-part c = rw (c.as_bytes-part.ensures.value, c.range-2.ensures.value) (digits_of_run _ c.in_ok-end-2.ensures.digits.each)

pub returns-in_err-end-2-clause-fault : goal.returns-in_err-end-2-clause-fault
returns-in_err-end-2-clause-fault c =
    let text = c.args.text.now in
    let place = c.args.place in
    let end = c.in_ok-end.end in
    let test : true ≡ (slice_index (drop end text) 0 == 46) = search rules in
    let mark = begins_at 46 text end (lit< tt) test in
    let few = short_range text place end c.in_ok-end.ensures.few in
    let p = err_from_is_err_and c.from_residual-in_err-end-2.result c.from_residual-in_err-end-2.ensures.1 in
    fault_passed c.read_part.result c.from_residual-in_err-end-2.result c.in_err-end-2.field-0.0 p.0 c.in_err-end-2.was p.1 p.2
    (FailsAt NoDigits text (end + 1)) (FailsAt NoNumber text place)
    (λ f h. part_fault text place end _ f c.in_ok-end.ensures.digits few mark h)
    c.read_part.ensures.fault
