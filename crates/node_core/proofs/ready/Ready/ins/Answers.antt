use Rattle.std.proofs.Common.{ap, sym, ◌∙◌}
use Rattle.node_core.proofs.ready.Ready.ins.Goals as goal

pub returns-clause-one_each : goal.returns-clause-one_each
returns-clause-one_each c =
    let is = c.self.invariant in
    (_, _, ap (λ r. r.ins) (sym c.self.view_is) ∙ is.ins, ap (λ r. r.outs) (sym c.self.view_is) ∙ is.outs)
