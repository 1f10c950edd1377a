use Rattle.std.proofs.Common.{◌≡◌, false, rules}
use Rattle.link_ports.specs.Ends.{is_closing}
use Rattle.link_ports.proofs.MoveLemmas.{notes_close, rises_close}
use Rattle.graph_node.proofs.ports.close_port.Goals as goal

pub returns-clause-notes : goal.returns-clause-notes
returns-clause-notes c = (let e : is_closing c.args.port.now ≡ false = search rules in notes_close c.args.port.now c.close.new.self e (c.close.ensures.closes e))

pub returns-clause-moved : goal.returns-clause-moved
returns-clause-moved c t = (let e : is_closing c.args.port.now ≡ false = search rules in rises_close c.args.port.now c.close.new.self e (c.close.ensures.closes e))
