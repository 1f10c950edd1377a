use Rattle.std.proofs.Common.{◌≡◌, ◌+◌, ◌*◌, [], Some, ap, refl, length, arith}
use Rattle.std.proofs.lemmas.Option.{none-some, same_Some}
use Rattle.av_text.proofs.TimeLemmas.{seconds_here, whole_fraction, same_micros}
use Rattle.av_text.proofs.times.clock.Goals as goal

pub returns-in_err-seconds-clause-only : goal.returns-in_err-seconds-clause-only
returns-in_err-seconds-clause-only c = λ size h.
    let here = seconds_here c.split_bytes.ensures h in
    absurd (none-some h.seconds (c.in_err-seconds.ensures.only h.seconds (rw here.0 at h.is_second)))

pub returns-in_err-part-clause-only : goal.returns-in_err-part-clause-only
returns-in_err-part-clause-only c = λ size h.
    let here = seconds_here c.split_bytes.ensures h in
    absurd (c.in_err-part.ensures.only h.part h.scale [] (whole_fraction (rw here.1 at h.is_fraction)) tt)

pub returns-in_default-empty-clause-only : goal.returns-in_default-empty-clause-only
returns-in_default-empty-clause-only c = λ size h.
    let here = seconds_here c.split_bytes.ensures h in
    let minutes = same_Some c.in_ok-minutes.minutes h.minutes (c.in_ok-minutes.ensures.only h.minutes h.is_minute) in
    let seconds = same_Some c.in_ok-seconds.seconds h.seconds (c.in_ok-seconds.ensures.only h.seconds (rw here.0 at h.is_second)) in
    let fraction = c.in_ok-part.ensures.only h.part h.scale [] (whole_fraction (rw here.1 at h.is_fraction)) tt in
    let whole : (c.args.hours * 60 + c.in_ok-minutes.minutes) * 60 + c.in_ok-seconds.seconds ≡ (c.args.hours * 60 + h.minutes) * 60 + h.seconds = omega arith in
    ap Some (same_micros c.micros.ensures.value h.size_is refl whole fraction.0 fraction.1)

pub returns-in_default-clause-only : goal.returns-in_default-clause-only
returns-in_default-clause-only c = λ size h.
    let here = seconds_here c.split_bytes.ensures h in
    let fraction = c.in_ok-part.ensures.only h.part h.scale [] (whole_fraction (rw here.1 at h.is_fraction)) tt in
    absurd (omega (arith, ap length fraction.2))
