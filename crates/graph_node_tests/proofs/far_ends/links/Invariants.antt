use Rattle.std.proofs.Common.{◌≡◌, ◌≤◌, All, length}
use Rattle.link_ports.specs.Ends.{fresh_sender, fresh_receiver}
use Rattle.graph_node_tests.proofs.far_ends.links.Given as goal

abbrev pub invariant-loop : goal.invariant-loop
invariant-loop l = record {
  few : l.counter ≤ l.count;
  outs : length l.outs.items ≡ l.counter;
  ins : length l.ins.items ≡ l.counter;
  fresh_outs : All (λ s. s ≡ fresh_sender s.link) l.outs.items;
  fresh_ins : All (λ r. r ≡ fresh_receiver r.link) l.ins.items;
}
