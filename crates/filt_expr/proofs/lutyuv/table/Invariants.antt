use Rattle.std.proofs.Common.{◌≡◌, ◌<◌, ℕ, length, get_or}
use Rattle.filt_expr.specs.Lutyuv.{IsEntry}
use Rattle.filt_expr.proofs.lutyuv.table.Given as goal

abbrev pub invariant-loop-val : goal.invariant-loop-val
invariant-loop-val l = record {
  long : length l.table ≡ 256;
  entries : (v : ℕ) → v < l.val → IsEntry l.expr l.plane v (get_or l.table v 0);
}
