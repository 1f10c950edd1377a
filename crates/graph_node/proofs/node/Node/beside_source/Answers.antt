use Rattle.std.proofs.Common.{sym, ◌∙◌}
use Rattle.graph_node.proofs.node.Node.beside_source.Goals as goal

pub returns-clause-sound : goal.returns-clause-sound
returns-clause-sound g c = record {
  fit = c.look_source.ensures.fit;
  rests = λ e. c.look_source.ensures.idle (c.requires.sound.rests (sym c.look_source.ensures.marks ∙ e));
}

pub returns-clause-mark : goal.returns-clause-mark
returns-clause-mark g c = c.look_source.ensures.marks
