use Rattle.std.proofs.Common.{◌≡◌, ℕ, ◌+◌, ◌<◌, get_or}
use Rattle.av_frame.proofs.kernel.Kernel.column.Given as goal

abbrev pub invariant-loop-i : goal.invariant-loop-i
invariant-loop-i g l = record {
  sources : l.sources ≡ l.initial.sources;
  out : (k : ℕ) → k < l.i → get_or l.out k 0 ≡ g.Self.Kernel.value l.self l.initial.sources l.plane (l.row + k) l.column;
}
