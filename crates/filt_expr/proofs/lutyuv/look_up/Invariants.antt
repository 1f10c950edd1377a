use Rattle.std.proofs.Common.{◌≡◌, ◌<◌, ◌≤◌, ℕ, length, get_or}
use Rattle.filt_expr.proofs.lutyuv.look_up.Given as goal

abbrev pub invariant-loop-sample : goal.invariant-loop-sample
invariant-loop-sample l = record {
  length_is : length l.row ≡ length l.fn.row;
  end_is : l.sample-index-end ≡ length l.fn.row;
  done : (c : ℕ) → c < l.sample-index → get_or l.row c 0 ≡ get_or l.table (get_or l.fn.row c 0) 0;
  left : (c : ℕ) → l.sample-index ≤ c → get_or l.row c 0 ≡ get_or l.fn.row c 0;
}
