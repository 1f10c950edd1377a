use Rattle.std.proofs.Common.{◌≡◌}
use Rattle.av_frame.proofs.PaintLemmas.{HasPlanes}
use Rattle.av_frame.proofs.kernel.paint.Given as goal

abbrev pub invariant-loop-plane : goal.invariant-loop-plane
invariant-loop-plane g l = record {
  sources : l.sources ≡ l.initial.sources;
  painted : HasPlanes l.initial.edit l.edit (g.K.Kernel.value l.kernel l.initial.sources) l.plane;
}
