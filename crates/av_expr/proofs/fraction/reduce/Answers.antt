use Rattle.std.proofs.Common.{sym, ◌∙◌, refl, rules, FitsSigned}
use Rattle.std.specs.Int.{w128}
use Rattle.std.proofs.lemmas.Int.{to_z-of_z}
use Rattle.av_expr.proofs.FractionLemmas.{Sizes, sized_is, sized_num, sized_den}
use Rattle.av_expr.proofs.fraction.reduce.Goals as goal

pub returns-in_err-signed-clause-none : goal.returns-in_err-signed-clause-none
returns-in_err-signed-clause-none c = λ n.
    let num = to_z-of_z w128 c.args.num c.ranges.num in
    let den = to_z-of_z w128 c.args.den c.ranges.den in
    let s : Sizes c.args.num c.args.den _ _ c.unsigned_abs.result c.unsigned_abs-2.result c.greatest_divisor-divisor.result =
    record { x_is = num; y_is = den; a_is = c.unsigned_abs.ensures.value; b_is = c.unsigned_abs-2.ensures.value; greatest = c.greatest_divisor-divisor.ensures.greatest; some = c.requires } in
    sized_num s (rw (c.unsigned_abs-3.ensures.value ∙ sym c.unsigned_abs.ensures.value) at c.in_err-signed.ensures.none refl)

pub returns-in_err-signed-2-clause-none : goal.returns-in_err-signed-2-clause-none
returns-in_err-signed-2-clause-none c = λ n.
    let num = to_z-of_z w128 c.args.num c.ranges.num in
    let den = to_z-of_z w128 c.args.den c.ranges.den in
    let s : Sizes c.args.num c.args.den _ _ c.unsigned_abs.result c.unsigned_abs-2.result c.greatest_divisor-divisor.result =
    record { x_is = num; y_is = den; a_is = c.unsigned_abs.ensures.value; b_is = c.unsigned_abs-2.ensures.value; greatest = c.greatest_divisor-divisor.ensures.greatest; some = c.requires } in
    sized_den s (rw (c.unsigned_abs-4.ensures.value ∙ sym c.unsigned_abs-2.ensures.value) at c.in_err-signed-2.ensures.none refl)

pub returns-clause-fraction : goal.returns-clause-fraction
returns-clause-fraction c =
    let num = to_z-of_z w128 c.args.num c.ranges.num in
    let den = to_z-of_z w128 c.args.den c.ranges.den in
    let s : Sizes c.args.num c.args.den _ _ c.unsigned_abs.result c.unsigned_abs-2.result c.greatest_divisor-divisor.result =
    record { x_is = num; y_is = den; a_is = c.unsigned_abs.ensures.value; b_is = c.unsigned_abs-2.ensures.value; greatest = c.greatest_divisor-divisor.ensures.greatest; some = c.requires } in
    let f : FitsSigned w128 c.in_ok-signed.field-0 = search rules in
    let g : FitsSigned w128 c.in_ok-signed-2.field-0 = search rules in
    let above = c.unsigned_abs-3.ensures.value ∙ sym c.unsigned_abs.ensures.value in
    let below = c.unsigned_abs-4.ensures.value ∙ sym c.unsigned_abs-2.ensures.value in
    sized_is s _ _ (to_z-of_z w128 c.in_ok-signed.field-0 f ∙ rw above at c.in_ok-signed.ensures.number) (to_z-of_z w128 c.in_ok-signed-2.field-0 g ∙ rw below at c.in_ok-signed-2.ensures.number)
