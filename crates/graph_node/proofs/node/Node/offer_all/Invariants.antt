use Rattle.std.proofs.Common.{◌≡◌, ℕ, ◌<◌, true, false}
use Rattle.graph_node.specs.Nodes.{SameCores, moves, Fit, Step, DrawnAt}
use Rattle.graph_node.proofs.node.Node.offer_all.Given as goal

abbrev pub invariant-loop-i : goal.invariant-loop-i
invariant-loop-i g l = record {
  fit : Fit g.F.Filter.pads g.F.Filter.closes g.F.Filter.accepts l.self;
  step : Step g.F.Filter.pads g.F.Filter.rest g.F.Filter.closes g.F.Filter.over l.initial.self l.self;
  drawn : l.moved ≡ false → (j : ℕ) → j < l.i → DrawnAt g.F.Filter.closes l.self j;
  moved : l.moved ≡ true → moves l.initial.self < moves l.self;
  still : l.moved ≡ false → SameCores l.initial.self l.self;
  outs : l.self.outs ≡ l.initial.self.outs;
}
