use Rattle.std.proofs.Common.{◌+◌, ◌≤◌, length, ◌≡◌, ℕ, ◌<◌, true, false}
use Rattle.graph_node.specs.Ports.{is_done}
use Rattle.graph_node.specs.Nodes.{given_all, SameCores, moves, Fit, Step, AskedAt, Needs, outlet}
use Rattle.graph_node.specs.declared.outlet.Outlet.{Outlet}
use Rattle.graph_node.proofs.node.Node.give_all.Given as goal

abbrev pub invariant-loop-i : goal.invariant-loop-i
invariant-loop-i g l = record {
  fit : Fit g.F.Filter.pads g.F.Filter.closes g.F.Filter.accepts l.self;
  step : Step g.F.Filter.pads g.F.Filter.rest g.F.Filter.closes g.F.Filter.over l.initial.self l.self;
  ins : l.self.ins ≡ l.initial.self.ins;
  asked : l.moved ≡ false → (o : ℕ) → o < l.i → AskedAt g.F.Filter.rest l.self o;
  needs : l.moved ≡ false → (o : ℕ) (d : Outlet) → o < l.i → is_done (outlet l.self o d) ≡ false → Needs g.F.Filter.wants l.self;
  moved : l.moved ≡ true → moves l.initial.self < moves l.self;
  still : l.moved ≡ false → SameCores l.initial.self l.self;
  few : (o : ℕ) → length (given_all l.self o).frames ≤ length (given_all l.initial.self o).frames + 1;
  later : (o : ℕ) → l.i ≤ o → given_all l.self o ≡ given_all l.initial.self o;
}
