use Rattle.std.proofs.Common.{◌∷◌, ap, refl, ◌∙◌, inr, arith}
use Rattle.std.proofs.lemmas.Int.Digits.{digits_value-lt}
use Rattle.std.proofs.lemmas.Option.{none-some, same_Some}
use Rattle.av_text.proofs.NumberLemmas.{first_and_rest}
use Rattle.av_text.proofs.TimeLemmas.{fraction_here}
use Rattle.av_text.proofs.times.split_part.Goals as goal

pub returns-in_err-num-in-46-clause-only : goal.returns-in_err-num-in-46-clause-only
returns-in_err-num-in-46-clause-only c = λ part scale rest begins ends.
    let e = first_and_rest c.args.text.now 46 c.in-46.len_at_least (omega arith) in
    let here = fraction_here c.split_bytes.ensures (rw e at begins) ends in
    absurd (none-some part (c.in_err-num-in-46.ensures.only part here.0))

pub returns-in_ok-num-in-46-clause-found : goal.returns-in_ok-num-in-46-clause-found
returns-in_ok-num-in-46-clause-found c =
    let digits = c.split_bytes.result.0.now in
    record {
      fraction = 46 ∷ digits;
      text_is = first_and_rest c.args.text.now 46 c.in-46.len_at_least (omega arith) ∙ ap (λ xs. 46 ∷ xs) c.split_bytes.ensures.text_is;
      is_fraction = inr (digits, refl, c.in_ok-num-in-46.ensures.found, c.pow-scale.ensures);
    }

pub returns-in_ok-num-in-46-clause-only : goal.returns-in_ok-num-in-46-clause-only
returns-in_ok-num-in-46-clause-only c = λ part scale rest begins ends.
    let e = first_and_rest c.args.text.now 46 c.in-46.len_at_least (omega arith) in
    let here = fraction_here c.split_bytes.ensures (rw e at begins) ends in
    (same_Some c.in_ok-num-in-46.num part (c.in_ok-num-in-46.ensures.only part here.0), c.pow-scale.ensures ∙ here.1, here.2)

pub returns-in_ok-num-in-46-clause-less : goal.returns-in_ok-num-in-46-clause-less
returns-in_ok-num-in-46-clause-less c =
    let number = c.in_ok-num-in-46.ensures.found in
    let less = digits_value-lt 10 c.split_bytes.result.0.now number.digits in
    omega (arith, number.value, c.pow-scale.ensures)
