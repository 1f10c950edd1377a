use Rattle.std.proofs.Common.{◌≡◌, ◌+◌, ◌*◌, min}
use Rattle.av_frame.proofs.PaintLemmas.{HasRows}
use Rattle.av_frame.proofs.kernel.paint_bands.Given as goal

abbrev pub invariant-loop-number : goal.invariant-loop-number
invariant-loop-number g l = record {
  sources : l.sources ≡ l.initial.sources;
  painted : HasRows l.initial.edit l.edit l.plane (g.K.Kernel.value l.kernel l.initial.sources l.plane) (min (l.number * 32) l.rows);
}

abbrev pub invariant-loop-i : goal.invariant-loop-i
invariant-loop-i g l = record {
  painted : HasRows l.fn.edit l.edit l.plane (g.K.Kernel.value l.kernel l.fn.sources l.plane) (l.row + l.i);
}
