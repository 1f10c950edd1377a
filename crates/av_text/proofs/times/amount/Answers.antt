use Rattle.std.proofs.Common.{Some, ap}
use Rattle.std.proofs.lemmas.Option.{none-some, same_Some, some_pair_parts}
use Rattle.av_text.proofs.TimeLemmas.{amount_here, unit_ends, same_micros}
use Rattle.av_text.proofs.times.amount.Goals as goal

pub returns-in_err-part-clause-only : goal.returns-in_err-part-clause-only
returns-in_err-part-clause-only c = λ size h.
    let here = amount_here c.requires.digits c.requires.tail h in
    absurd (c.in_err-part.ensures.only h.part h.scale h.suffix here.1 (unit_ends h.is_unit))

pub returns-in_err-unit-clause-only : goal.returns-in_err-unit-clause-only
returns-in_err-unit-clause-only c = λ size h.
    let here = amount_here c.requires.digits c.requires.tail h in
    let fraction = c.in_ok-part.ensures.only h.part h.scale h.suffix here.1 (unit_ends h.is_unit) in
    absurd (none-some (h.unit, h.most) (c.in_err-unit.ensures.only h.unit h.most (rw (← fraction.2) at h.is_unit)))

pub returns-in_err-number-clause-only : goal.returns-in_err-number-clause-only
returns-in_err-number-clause-only c = λ size h.
    let here = amount_here c.requires.digits c.requires.tail h in
    let fraction = c.in_ok-part.ensures.only h.part h.scale h.suffix here.1 (unit_ends h.is_unit) in
    let unit = some_pair_parts c.in_ok-unit.unit h.unit c.in_ok-unit.most h.most (c.in_ok-unit.ensures.only h.unit h.most (rw (← fraction.2) at h.is_unit)) in
    absurd (none-some h.whole (c.in_err-number.ensures.only h.whole (rw (here.0, ← unit.1) at h.is_whole)))

pub returns-clause-only : goal.returns-clause-only
returns-clause-only c = λ size h.
    let here = amount_here c.requires.digits c.requires.tail h in
    let fraction = c.in_ok-part.ensures.only h.part h.scale h.suffix here.1 (unit_ends h.is_unit) in
    let unit = some_pair_parts c.in_ok-unit.unit h.unit c.in_ok-unit.most h.most (c.in_ok-unit.ensures.only h.unit h.most (rw (← fraction.2) at h.is_unit)) in
    let whole = same_Some c.in_ok-number.field-0 h.whole (c.in_ok-number.ensures.only h.whole (rw (here.0, ← unit.1) at h.is_whole)) in
    ap Some (same_micros c.micros.ensures.value h.size_is unit.0 whole fraction.0 fraction.1)
