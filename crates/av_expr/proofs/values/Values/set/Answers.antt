use Rattle.av_expr.specs.Vars.{order}
use Rattle.av_expr.proofs.ValueLemmas.{lowest_set}
use Rattle.av_expr.proofs.values.Values.set.Goals as goal

pub invariant_of-self : goal.invariant_of-self
invariant_of-self c = λ x. lowest_set c.self.inside.table c.order.result (order x) c.args.value c.requires (c.self.invariant x)
