use Rattle.std.proofs.Common.{◌+◌, ◌*◌, ◌∙◌, ap, arith}
use Rattle.std.proofs.lemmas.Str.Parse.{digit_at}
use Rattle.av_expr.proofs.AtomLemmas.{front_below}
use Rattle.av_expr.proofs.atoms.digits_number.Goals as goal
use Rattle.av_text.proofs.NumberLemmas.{value_more}

pub overflow_mul-value : goal.overflow_mul-value
overflow_mul-value c = let i = c.loop-byte.invariant in let small = front_below c.args.digits.now c.loop-byte.byte-index c.requires.digits c.requires.few in omega arith

pub overflow_sub-byte : goal.overflow_sub-byte
overflow_sub-byte c = let d = digit_at c.args.digits.now c.loop-byte.byte-index c.requires.digits c.loop-byte-test.true in d.0

pub overflow_add-value : goal.overflow_add-value
overflow_add-value c =
    let i = c.loop-byte.invariant in
    let small = front_below c.args.digits.now c.loop-byte.byte-index c.requires.digits c.requires.few in
    let d = digit_at c.args.digits.now c.loop-byte.byte-index c.requires.digits c.loop-byte-test.true in
    omega (arith, c.from.ensures)

pub loop-byte-preserved : goal.loop-byte-preserved
loop-byte-preserved c =
    let d = digit_at c.args.digits.now c.loop-byte.byte-index c.requires.digits c.loop-byte-test.true in
    ap (λ n. c.loop-byte.value * 10 + n) c.from.ensures ∙ value_more c.args.digits.now c.loop-byte.byte-index c.loop-byte.value c.loop-byte-test.true d c.loop-byte.invariant

pub returns-clause-small : goal.returns-clause-small
returns-clause-small c = let i = c.loop-byte.invariant in let small = front_below c.args.digits.now c.loop-byte.byte-index c.requires.digits c.requires.few in omega arith
