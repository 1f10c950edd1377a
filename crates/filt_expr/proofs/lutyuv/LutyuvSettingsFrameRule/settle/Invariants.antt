use Rattle.std.proofs.Common.{◌≡◌, ◌<◌, ◌≤◌, ℕ, [], length, get_or}
use Rattle.filt_expr.specs.Lutyuv.{IsTable, expression_for}
use Rattle.filt_expr.proofs.lutyuv.LutyuvSettingsFrameRule.settle.Given as goal

abbrev pub invariant-loop-plane : goal.invariant-loop-plane
invariant-loop-plane l = record {
  count : length l.tables ≡ 4;
  tables : (p : ℕ) → p < l.plane → IsTable (expression_for l.options p) p (get_or l.tables p []);
  long : (p : ℕ) → p < 4 → length (get_or l.tables p []) ≡ 256;
  blank : (p : ℕ) → l.plane ≤ p → (val : ℕ) → get_or (get_or l.tables p []) val 0 ≡ 0;
}
