use Rattle.std.proofs.Common.{◌≡◌, ℕ, ◌+◌, ◌*◌, ◌<◌, get_or}
use Rattle.av_frame.proofs.kernel.read_band.Given as goal

abbrev pub invariant-loop-column : goal.invariant-loop-column
invariant-loop-column g l = record {
  sources : l.sources ≡ l.initial.sources;
  band : (i c : ℕ) → i < l.count → c < l.column → get_or l.band (c * 32 + i) 0 ≡ g.K.Kernel.value l.kernel l.initial.sources l.plane (l.row + i) c;
}
