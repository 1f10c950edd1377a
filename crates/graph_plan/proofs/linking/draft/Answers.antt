use Rattle.std.proofs.Common.{rules}
use Rattle.graph_plan.proofs.linking.draft.Goals as goal

pub returns-in_err-order-clause-fault : goal.returns-in_err-order-clause-fault
returns-in_err-order-clause-fault c = let fault = c.in_err-order.ensures.fault c.args.outputs c.in_ok-labels.ensures.sound in search rules

pub returns-in_err-links-clause-fault : goal.returns-in_err-links-clause-fault
returns-in_err-links-clause-fault c = let fault = c.in_err-links.ensures.fault c.args.outputs c.in_ok-labels.ensures.sound c.in_ok-order.ensures.straight in search rules
