use Rattle.std.proofs.Common.{◌-◌, ◌+◌, length}
use Rattle.graph_text.proofs.GraphLemmas.{Called}
use Rattle.graph_text.proofs.graph.parse.Given as goal

abbrev pub invariant-calls : goal.invariant-calls
invariant-calls l = Called l.text l.initial.place l.calls.items l.chain l.place

abbrev pub decreases-calls : goal.decreases-calls
decreases-calls l = length l.text + 1 - l.place
