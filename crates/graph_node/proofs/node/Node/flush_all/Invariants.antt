use Rattle.std.proofs.Common.{◌≡◌, ℕ, ◌<◌, ◌≤◌, true, false}
use Rattle.std.specs.Prelude.{slice_get, Some}
use Rattle.link_ports.specs.Moves.{FlushDone}
use Rattle.graph_node.specs.Nodes.{given_all, SameCores, moves, Fit, Step}
use Rattle.graph_node.specs.declared.outlet.Outlet.{Outlet}
use Rattle.graph_node.proofs.node.Node.flush_all.Given as goal

abbrev pub invariant-loop-i : goal.invariant-loop-i
invariant-loop-i g l = record {
  fit : Fit g.F.Filter.pads g.F.Filter.closes g.F.Filter.accepts l.self;
  step : Step g.F.Filter.pads g.F.Filter.rest g.F.Filter.closes g.F.Filter.over l.initial.self l.self;
  moved : l.moved ≡ true → moves l.initial.self < moves l.self;
  still : l.moved ≡ false → SameCores l.initial.self l.self;
  done : l.moved ≡ false → (j : ℕ) (r : Outlet) → j < l.i → slice_get l.initial.self.outs.items j ≡ Some r → FlushDone r.port;
  rest : (j : ℕ) → l.i ≤ j → slice_get l.self.outs.items j ≡ slice_get l.initial.self.outs.items j;
  given : (o : ℕ) → given_all l.self o ≡ given_all l.initial.self o;
}
