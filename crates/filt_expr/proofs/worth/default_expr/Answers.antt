use Rattle.filt_expr.proofs.worth.default_expr.Goals as goal

pub unreachable-requires : goal.unreachable-requires
unreachable-requires c =
    let means = c.requires.means in
    rw c.in-Err-Fault.field-0-is at (c.in-Err-Fault.ensures.reads means.0 (rw c.variables.ensures means.1))
