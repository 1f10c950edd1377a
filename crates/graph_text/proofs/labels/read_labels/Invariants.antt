use Rattle.std.proofs.Common.{◌-◌, length}
use Rattle.graph_text.proofs.LabelLemmas.{Labelled}
use Rattle.graph_text.proofs.labels.read_labels.Given as goal

abbrev pub invariant-labels : goal.invariant-labels
invariant-labels l = Labelled l.text l.fn.start l.labels.items l.place

abbrev pub decreases-labels : goal.decreases-labels
decreases-labels l = length l.text - l.place
