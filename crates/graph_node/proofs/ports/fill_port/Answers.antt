use Rattle.std.proofs.Common.{◌≡◌, true, sym, ◌∙◌, rules}
use Rattle.link_ports.specs.Ends.{is_closing}
use Rattle.graph_node.proofs.DropLemmas.{core_dropped}
use Rattle.graph_node.proofs.ports.fill_port.Goals as goal

pub returns-then-is_closing-clause-still : goal.returns-then-is_closing-clause-still
returns-then-is_closing-clause-still c e =
    let old = c.args.port.now in
    let closing : is_closing old ≡ true = sym c.fill_queue.ensures.keeps.closing ∙ (search rules) in
    let still = c.in_ok-moved.ensures.still e in
    (core_dropped old c.fill_queue.new.port c.discard.new.port still.0 (c.requires.dropped closing) c.discard.ensures.becomes, still.1)
