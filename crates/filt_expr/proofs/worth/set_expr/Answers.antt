use Rattle.filt_expr.proofs.worth.set_expr.Goals as goal

pub returns-in-Err-Fault-clause-taken : goal.returns-in-Err-Fault-clause-taken
returns-in-Err-Fault-clause-taken c = (λ taken. cc, λ means. absurd (rw c.in-Err-Fault.field-0-is at (c.in-Err-Fault.ensures.reads means.0 (rw c.variables.ensures means.1.is))))
