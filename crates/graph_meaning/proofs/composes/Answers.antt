use Rattle.graph_meaning.proofs.LawProofs.{meaning_law, prefix_law, quiet_law, want_law}
use Rattle.graph_meaning.proofs.composes.Goals as goal

pub returns : goal.returns
returns c = record { meaning = meaning_law; prefix = prefix_law; quiet = quiet_law; wants = want_law }
