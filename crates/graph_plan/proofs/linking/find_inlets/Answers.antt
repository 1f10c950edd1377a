use Rattle.std.proofs.Common.{rules}
use Rattle.graph_plan.proofs.linking.find_inlets.Goals as goal

pub returns-in_err-labels-clause-fault : goal.returns-in_err-labels-clause-fault
returns-in_err-labels-clause-fault c = let fault = c.in_err-labels.ensures.fault c.args.outputs c.in_ok-check_counts.ensures.few in search rules

pub returns-in_err-inlets-clause-fault : goal.returns-in_err-inlets-clause-fault
returns-in_err-inlets-clause-fault c = let fault = c.in_err-inlets.ensures.fault c.args.outputs c.in_ok-check_counts.ensures.few in search rules

pub returns-in_err-check_kinds-clause-fault : goal.returns-in_err-check_kinds-clause-fault
returns-in_err-check_kinds-clause-fault c = let fault = c.in_err-check_kinds.ensures.fault c.args.outputs c.in_ok-check_counts.ensures.few in search rules
