use Rattle.std.proofs.Common.{◌≡◌, ℕ, ◌<◌, ◌≤◌, true, false}
use Rattle.std.specs.Prelude.{slice_get, Some}
use Rattle.link_ports.specs.Moves.{FillDone}
use Rattle.graph_node.specs.declared.inlet.Inlet.{Inlet}
use Rattle.graph_node.specs.Nodes.{SameCores, moves, Fit, Step}
use Rattle.graph_node.proofs.node.Node.fill_all.Given as goal

abbrev pub invariant-loop-i : goal.invariant-loop-i
invariant-loop-i g l = record {
  fit : Fit g.F.Filter.pads g.F.Filter.closes g.F.Filter.accepts l.self;
  step : Step g.F.Filter.pads g.F.Filter.rest g.F.Filter.closes g.F.Filter.over l.initial.self l.self;
  moved : l.moved ≡ true → moves l.initial.self < moves l.self;
  still : l.moved ≡ false → SameCores l.initial.self l.self;
  done : l.moved ≡ false → (j : ℕ) (r : Inlet) → j < l.i → slice_get l.initial.self.ins.items j ≡ Some r → FillDone r.port;
  rest : (j : ℕ) → l.i ≤ j → slice_get l.self.ins.items j ≡ slice_get l.initial.self.ins.items j;
  outs : l.self.outs ≡ l.initial.self.outs;
}
