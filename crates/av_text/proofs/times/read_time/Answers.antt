use Rattle.std.proofs.Common.{Some, ap, sym, ◌∙◌, w64, rules}
use mir.Val.{SFits}
use Rattle.std.proofs.lemmas.Int.{to_z-of_z}
use Rattle.std.proofs.lemmas.Option.{none-some, same_Some}
use Rattle.av_text.specs.NumberParts.{signed_of}
use Rattle.av_text.proofs.NumberLemmas.{sign_here}
use Rattle.av_text.proofs.TimeLemmas.{time_unsigned}
use Rattle.av_text.proofs.times.read_time.Goals as goal

pub returns-in_err-size-clause-only : goal.returns-in_err-size-clause-only
returns-in_err-size-clause-only c = λ z h.
    let here = sign_here c.split_sign-negative.result.0 (rw c.as_bytes.ensures.value at c.split_sign-negative.ensures) h.3 (time_unsigned h.2) in
    absurd (none-some h.1 (c.in_err-size.ensures.only h.1 (rw here.0 at h.2)))

pub returns-clause-only : goal.returns-clause-only
returns-clause-only c = λ z h.
    let here = sign_here c.split_sign-negative.result.0 (rw c.as_bytes.ensures.value at c.split_sign-negative.ensures) h.3 (time_unsigned h.2) in
    let size = same_Some c.in_ok-size.size h.1 (c.in_ok-size.ensures.only h.1 (rw here.0 at h.2)) in
    let fits : SFits w64 c.signed.result = search rules in
    ap Some (to_z-of_z w64 c.signed.result fits ∙ (c.signed.ensures ∙ (ap (signed_of c.split_sign-negative.result.0) size ∙ sym here.1)))
