use Rattle.graph_plan.proofs.order_tests.is_below.Goals as goal

pub returns-in-None : goal.returns-in-None
returns-in-None c = λ below giver taker joins. absurd (c.in-None.ensures giver taker joins)
