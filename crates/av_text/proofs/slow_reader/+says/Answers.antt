use Rattle.std.proofs.Common.{rules, length, refl, arith}
use Rattle.std.proofs.lemmas.List.{take_rest}
use Rattle.std.proofs.lemmas.Bool.{iff_false, eqb-true}
use Rattle.av_text.proofs.SlowLemmas.{white_says, plain_says, escaped_says, quoted_says}
use Rattle.av_text.proofs.slow_reader.+says.Goals as goal

pub returns-then-all_space : goal.returns-then-all_space
returns-then-all_space t c = λ empty.
    white_says c.args.row.now c.args.value.now (c.all_space.ensures.0 c.if-all_space.true) (eqb-true (length c.args.value.now) 0 (let e = c.is_empty.ensures in cc))

pub returns-then-begins_with : goal.returns-then-begins_with
returns-then-begins_with t c = λ whole.
    let some = simp take_rest at c.in-len1-up-behind.len_at_least in
    let front = simp take_rest at (c.begins_with.ensures c.if-begins_with.true) in
    let said = simp take_rest at (c.says.ensures whole) in
    escaped_says c.args.row.now c.args.value.now some (iff_false c.all_space.ensures c.if-all_space.false) c.in-92.is front said

pub returns-then-starts_with : goal.returns-then-starts_with
returns-then-starts_with t c = λ whole.
    let found = simp take_rest at c.in-Some.ensures.found in
    let front = simp take_rest at c.if-starts_with.ensures.value in
    let said = simp take_rest at (c.says-then-starts_with.ensures whole) in
    quoted_says c.args.row.now c.args.value.now c.in-Some.n c.in-len1-up.len_at_least (iff_false c.all_space.ensures c.if-all_space.false) c.in-39.is (let h = found.0 in omega arith) found.1 found.2 front said

pub returns-then-begins_with-2 : goal.returns-then-begins_with-2
returns-then-begins_with-2 t c = λ whole.
    let said = simp take_rest at (c.says-then-begins_with-2.ensures whole) in
    plain_says c.args.row.now c.args.value.now c.in-len1-up.len_at_least (iff_false c.all_space.ensures c.if-all_space.false) (λ e. search rules, λ e. search rules, λ h. omega (arith, h.1)) (c.if-begins_with-2.ensures refl) said
