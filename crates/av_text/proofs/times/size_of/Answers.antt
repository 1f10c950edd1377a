use Rattle.std.proofs.Common.{nat_eq, inl, arith, rules}
use Rattle.std.proofs.lemmas.Option.{IfSome_then, none-some, same_Some}
use Rattle.av_text.specs.Classes.{Stops}
use Rattle.av_text.proofs.NumberLemmas.{first_and_rest, digits_of_run}
use Rattle.av_text.proofs.TimeLemmas.{hours_here, no_hours_here, amount_only, clock_with_hours, clock_without_hours}
use Rattle.av_text.proofs.times.size_of.Goals as goal

pub returns-in_err-number-in-58-rest-clause-only : goal.returns-in_err-number-in-58-rest-clause-only
returns-in_err-number-in-58-rest-clause-only c = λ size h.
    let e = first_and_rest c.split_bytes.result.1.now 58 c.in-58.len_at_least (omega arith) in
    let f = first_and_rest c.split_bytes-in-58.result.1.now 58 c.in-58-rest.len_at_least (omega arith) in
    let here = hours_here (rw e at c.split_bytes.ensures) (rw f at c.split_bytes-in-58.ensures) h in
    absurd (none-some here.0 (c.in_err-number-in-58-rest.ensures.only here.0 here.1))

pub amount-requires-clause-digits : goal.amount-requires-clause-digits
amount-requires-clause-digits c = digits_of_run c.split_bytes.result.0.now c.split_bytes.ensures.each

pub returns-in_ok-number-in-58-rest-clause-found : goal.returns-in_ok-number-in-58-rest-clause-found
returns-in_ok-number-in-58-rest-clause-found c =
    let e = first_and_rest c.split_bytes.result.1.now 58 c.in-58.len_at_least (omega arith) in
    let f = first_and_rest c.split_bytes-in-58.result.1.now 58 c.in-58-rest.len_at_least (omega arith) in
    IfSome_then c.clock.result c.clock.ensures.found
    (λ size h. inl (clock_with_hours (rw e at c.split_bytes.ensures) (rw f at c.split_bytes-in-58.ensures) c.in_ok-number-in-58-rest.ensures.found h))

pub returns-in_ok-number-in-58-rest-clause-only : goal.returns-in_ok-number-in-58-rest-clause-only
returns-in_ok-number-in-58-rest-clause-only c = λ size h.
    let e = first_and_rest c.split_bytes.result.1.now 58 c.in-58.len_at_least (omega arith) in
    let f = first_and_rest c.split_bytes-in-58.result.1.now 58 c.in-58-rest.len_at_least (omega arith) in
    let here = hours_here (rw e at c.split_bytes.ensures) (rw f at c.split_bytes-in-58.ensures) h in
    let hours = same_Some c.in_ok-number-in-58-rest.field-0 here.0 (c.in_ok-number-in-58-rest.ensures.only here.0 here.1) in
    c.clock.ensures.only size (rw (← hours) at here.2)

pub returns-in_default-rest-clause-found : goal.returns-in_default-rest-clause-found
returns-in_default-rest-clause-found c =
    let e = first_and_rest c.split_bytes.result.1.now 58 c.in-58.len_at_least (omega arith) in
    IfSome_then c.clock-in_default-rest.result c.clock-in_default-rest.ensures.found (λ size h. inl (clock_without_hours (rw e at c.split_bytes.ensures) h))

pub returns-in_default-rest-clause-only : goal.returns-in_default-rest-clause-only
returns-in_default-rest-clause-only c = λ size h.
    let e = first_and_rest c.split_bytes.result.1.now 58 c.in-58.len_at_least (omega arith) in
    let plain : Stops (λ x. nat_eq x 58) c.split_bytes-in-58.result.1.now = search rules in
    c.clock-in_default-rest.ensures.only size (no_hours_here (rw e at c.split_bytes.ensures) c.split_bytes-in-58.ensures plain h)

pub returns-in_default-clause-only : goal.returns-in_default-clause-only
returns-in_default-clause-only c = λ size h.
    let plain : Stops (λ x. nat_eq x 58) c.split_bytes.result.1.now = search rules in
    c.amount.ensures.only size (amount_only c.split_bytes.ensures plain h)
