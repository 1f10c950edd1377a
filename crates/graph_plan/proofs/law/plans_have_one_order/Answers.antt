use Rattle.graph_plan.proofs.BuiltOrder.{orders_are_one}
use Rattle.graph_plan.proofs.law.plans_have_one_order.Goals as goal

pub returns : goal.returns
returns c = orders_are_one
