use Rattle.std.proofs.Common.{◌≡◌, ℕ, ◌<◌, true, false, IsTrue}
use Rattle.graph_node.specs.Nodes.{SameCores, moves, SomeWanted, Fit, Step, DrawnAt, ClosedAt, WantedAt}
use Rattle.graph_node.proofs.node.Node.want_all.Given as goal

abbrev pub invariant-loop-i : goal.invariant-loop-i
invariant-loop-i g l = record {
  fit : Fit g.F.Filter.pads g.F.Filter.closes g.F.Filter.accepts l.self;
  step : Step g.F.Filter.pads g.F.Filter.rest g.F.Filter.closes g.F.Filter.over l.initial.self l.self;
  kept : (l.self.filter ≡ l.initial.self.filter) × (l.self.outs ≡ l.initial.self.outs);
  wanted : SomeWanted l.self → IsTrue l.some_wanted;
  drawn : (j : ℕ) → j < l.self.inputs → DrawnAt g.F.Filter.closes l.initial.self j → DrawnAt g.F.Filter.closes l.self j;
  closed : (j : ℕ) → j < l.self.inputs → ClosedAt g.F.Filter.closes l.initial.self j → ClosedAt g.F.Filter.closes l.self j;
  asked : (j : ℕ) → j < l.i → WantedAt g.F.Filter.wants l.self j;
  moved : l.moved ≡ true → moves l.initial.self < moves l.self;
  still : l.moved ≡ false → SameCores l.initial.self l.self;
}
