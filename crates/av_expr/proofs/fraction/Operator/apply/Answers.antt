use Rattle.std.proofs.Common.{◌∙◌, sym, rules, refl, inr, FitsSigned}
use Rattle.std.specs.Int.{w128}
use Rattle.std.proofs.lemmas.Int.{to_z-of_z}
use Rattle.av_expr.specs.Fractions.{DividesByZero}
use Rattle.av_expr.proofs.FractionLemmas.{below_some}
use Rattle.av_expr.proofs.fraction.Operator.apply.Goals as goal

pub reduce-requires : goal.reduce-requires
reduce-requires c = λ zero.
    let f : FitsSigned w128 c.in-Some.den = search rules in
    let divides : ¬ DividesByZero c.args.self c.args.b = search rules in
    below_some c.args.self c.args.a c.args.b c.requires.left.positive c.requires.right.positive divides (sym c.in-Some.ensures.parts.2 ∙ (sym (to_z-of_z w128 c.in-Some.den f) ∙ zero))

pub returns-in-Some-reduce-clause-value : goal.returns-in-Some-reduce-clause-value
returns-in-Some-reduce-clause-value c =
    let f : FitsSigned w128 c.in-Some.num = search rules in
    let g : FitsSigned w128 c.in-Some.den = search rules in
    let num = to_z-of_z w128 c.in-Some.num f ∙ c.in-Some.ensures.parts.1 in
    let den = to_z-of_z w128 c.in-Some.den g ∙ c.in-Some.ensures.parts.2 in
    record { divides = search rules; fits = c.in-Some.ensures.parts.0; reduced = rw (num, den) at c.in-Some-reduce.ensures.fraction; fitting = (search rules, search rules) }

pub returns-in-None-clause-none : goal.returns-in-None-clause-none
returns-in-None-clause-none c =
    let f : FitsSigned w128 c.in-Some.num = search rules in
    let g : FitsSigned w128 c.in-Some.den = search rules in
    let num = to_z-of_z w128 c.in-Some.num f ∙ c.in-Some.ensures.parts.1 in
    let den = to_z-of_z w128 c.in-Some.den g ∙ c.in-Some.ensures.parts.2 in
    let bad = c.in-None.ensures.none refl in
    (search rules, inr (bad.0, (rw (num, den) at bad.1), bad.2))
