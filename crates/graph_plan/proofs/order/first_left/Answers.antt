use Rattle.std.proofs.Common.{arith}
use Rattle.std.proofs.lemmas.List.Elements.{Contains-get_or}
use Rattle.graph_plan.proofs.order.first_left.Goals as goal

pub bounds-done-filters : goal.bounds-done-filters
bounds-done-filters c = c.requires.below _ (Contains-get_or c.args.filters.now c.filters.place 0 (omega arith))
