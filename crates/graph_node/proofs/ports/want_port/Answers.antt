use Rattle.std.proofs.Common.{◌≡◌, false, rules}
use Rattle.link_ports.proofs.MoveLemmas.{notes_want, rises_want}
use Rattle.graph_node.proofs.ports.want_port.Goals as goal

pub returns-clause-notes : goal.returns-clause-notes
returns-clause-notes c = (let e : c.args.port.now.asked ≡ false = search rules in notes_want c.args.port.now c.want.new.self e (c.want.ensures.asks e))

pub returns-clause-moved : goal.returns-clause-moved
returns-clause-moved c t = (let e : c.args.port.now.asked ≡ false = search rules in rises_want c.args.port.now c.want.new.self e (c.want.ensures.asks e))
