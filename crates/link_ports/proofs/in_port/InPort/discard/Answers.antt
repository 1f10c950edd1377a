use Rattle.link_ports.proofs.Lists.{whole_all}
use Rattle.link_ports.proofs.in_port.InPort.discard.Goals as goal

pub invariant_of-self : goal.invariant_of-self
invariant_of-self g c =
    let kept = c.self.invariant
    in (kept.0, kept.1, whole_all _ _ _ kept.2 c.clear.ensures.items, kept.3, kept.4, kept.5)
