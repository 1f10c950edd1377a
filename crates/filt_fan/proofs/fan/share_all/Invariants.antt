use Rattle.std.proofs.Common.{◌≡◌, ◌≤◌, ◌-◌, ◌++◌, ℕ, map}
use Rattle.std.specs.List.{range_with_len}
use Rattle.filt_fan.proofs.fan.share_all.Given as goal

abbrev pub invariant-loop : goal.invariant-loop
invariant-loop l = record {
  frame : l.frame ≡ l.initial.frame;
  some : 1 ≤ l.counter;
  few : l.counter ≤ l.outputs;
  shares : l.others.items ≡ l.initial.others.items ++ map (λ (_ : ℕ). l.initial.frame) (range_with_len 1 (l.counter - 1));
}
