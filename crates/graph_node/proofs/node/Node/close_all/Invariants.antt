use Rattle.std.proofs.Common.{◌≡◌, ℕ, ◌<◌, true, false, IsTrue, ◌↔◌}
use Rattle.graph_node.specs.Nodes.{SameCores, moves, AllDone, Fit, Step, DrawnAt, ClosedAt}
use Rattle.graph_node.proofs.node.Node.close_all.Given as goal

abbrev pub invariant-loop-i : goal.invariant-loop-i
invariant-loop-i g l = record {
  fit : Fit g.F.Filter.pads g.F.Filter.closes g.F.Filter.accepts l.self;
  step : Step g.F.Filter.pads g.F.Filter.rest g.F.Filter.closes g.F.Filter.over l.initial.self l.self;
  kept : (l.self.filter ≡ l.initial.self.filter) × (l.self.outs ≡ l.initial.self.outs);
  done : IsTrue l.all_done ↔ AllDone l.self;
  drawn : (j : ℕ) → j < l.self.inputs → DrawnAt g.F.Filter.closes l.initial.self j → DrawnAt g.F.Filter.closes l.self j;
  closed : (j : ℕ) → j < l.i → ClosedAt g.F.Filter.closes l.self j;
  moved : l.moved ≡ true → moves l.initial.self < moves l.self;
  still : l.moved ≡ false → SameCores l.initial.self l.self;
}
