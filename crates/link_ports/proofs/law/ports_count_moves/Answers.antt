use Rattle.link_ports.proofs.MoveLemmas.{ports_count}
use Rattle.link_ports.proofs.law.ports_count_moves.Goals as goal

pub returns : goal.returns
returns g c = ports_count
