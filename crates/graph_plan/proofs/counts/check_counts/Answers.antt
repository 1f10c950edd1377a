use Rattle.std.proofs.Common.{refl}
use Rattle.graph_plan.proofs.counts.check_counts.Goals as goal

pub returns-clause-counted : goal.returns-clause-counted
returns-clause-counted c =
    let no = c.if-has_too_many.false in
    record { small = c.requires; few = (c.args.outputs, λ many. let is = c.has_too_many.ensures.1 many in cc); pads = c.in_default.ensures.none refl }
