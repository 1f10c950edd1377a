use Rattle.std.proofs.Common.{◌+◌, ◌*◌, ◌∙◌, ap, take, arith, rules}
use Rattle.std.proofs.lemmas.Int.Digits.{digits_more}
use Rattle.std.proofs.lemmas.List.{length-take}
use Rattle.std.proofs.lemmas.Str.Parse.{digit_at}
use Rattle.av_text.proofs.NumberLemmas.{value_more, value_below}
use Rattle.av_text.proofs.numbers.number.Goals as goal

pub returns-then-not-is_ascii_digit-clause-only : goal.returns-then-not-is_ascii_digit-clause-only
returns-then-not-is_ascii_digit-clause-only c = λ n h.
    let digit = digit_at c.args.text.now c.loop-byte.byte-index h.digits c.loop-byte-test.true in
    absurd (omega (arith, c.if-not-is_ascii_digit.ensures.cases))

pub overflow_mul-value : goal.overflow_mul-value
overflow_mul-value c =
    let small = value_below (take c.loop-byte.byte-index c.args.text.now) 18 c.loop-byte.invariant.digits (omega (arith, length-take c.loop-byte.byte-index c.args.text.now)) in
    omega arith

pub overflow_add-value : goal.overflow_add-value
overflow_add-value c =
    let small = value_below (take c.loop-byte.byte-index c.args.text.now) 18 c.loop-byte.invariant.digits (omega (arith, length-take c.loop-byte.byte-index c.args.text.now)) in
    omega arith

pub loop-byte-preserved : goal.loop-byte-preserved
loop-byte-preserved c = record {
  digits = digits_more 10 c.args.text.now c.loop-byte.byte-index c.loop-byte-test.true c.loop-byte.invariant.digits c.if-not-is_ascii_digit.ensures.bound;
  value = ap (λ n. c.loop-byte.value * 10 + n) c.from.ensures ∙ value_more c.args.text.now c.loop-byte.byte-index c.loop-byte.value c.loop-byte-test.true (search rules) c.loop-byte.invariant.value;
}

pub returns-clause-fits : goal.returns-clause-fits
returns-clause-fits c =
    let small = value_below (take c.loop-byte.byte-index c.args.text.now) c.args.most c.loop-byte.invariant.digits (omega (arith, length-take c.loop-byte.byte-index c.args.text.now)) in
    omega arith
