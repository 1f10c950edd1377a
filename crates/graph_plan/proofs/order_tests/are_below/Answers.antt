use Rattle.std.proofs.Common.{rules, arith}
use Rattle.graph_plan.proofs.RowLemmas.{below_more}
use Rattle.graph_plan.proofs.order_tests.are_below.Goals as goal

pub links-preserved : goal.links-preserved
links-preserved c = below_more c.args.links.now c.links.link-index _ c.args.count (omega arith) c.links.invariant (c.is_below.ensures (search rules))
