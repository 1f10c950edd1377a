use Rattle.std.proofs.Common.{◌≡◌, rules}
use Rattle.filt_expr.proofs.pad.PadOptionsOptions.set.Goals as goal

pub returns-in_default-read_colour-clause-takes : goal.returns-in_default-read_colour-clause-takes
returns-in_default-read_colour-clause-takes c =
    let four : c.args.option ≡ 4 = search rules in
    (λ taken. cc, λ takes. (let means = takes.1.1.1.1.0 four in absurd (c.read_colour.ensures.none (search rules) means.0 means.1)))
