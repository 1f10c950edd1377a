use Rattle.std.proofs.Common.{◌≡◌}
use Rattle.av_frame.proofs.PaintLemmas.{HasRows}
use Rattle.av_frame.proofs.kernel.paint_rows.Given as goal

abbrev pub invariant-loop-row : goal.invariant-loop-row
invariant-loop-row g l = record {
  sources : l.sources ≡ l.initial.sources;
  painted : HasRows l.initial.edit l.edit l.plane (g.K.Kernel.value l.kernel l.initial.sources l.plane) l.row;
}
