use Rattle.std.proofs.Common.{sym, rules, FitsSigned, subst}
use Rattle.std.specs.Int.{w128}
use Rattle.std.proofs.lemmas.Int.{quot_is, quot_fits}
use Rattle.av_expr.specs.Fractions.{IsCut}
use Rattle.av_expr.proofs.FractionLemmas.{cut_is}
use Rattle.av_expr.proofs.fraction.Fraction.cut.Goals as goal

pub returns : goal.returns
returns c =
    let f : FitsSigned w128 c.args.self.num = search rules in
    let g : FitsSigned w128 c.args.self.den = search rules in
    subst (IsCut c.args.self) (sym (quot_is w128 c.args.self.num c.args.self.den f g (quot_fits w128 c.args.self.num c.args.self.den f c.requires.positive))) (cut_is c.args.self c.requires.positive)
