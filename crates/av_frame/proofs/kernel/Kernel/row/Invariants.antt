use Rattle.std.proofs.Common.{◌≡◌, ℕ, ◌<◌, get_or}
use Rattle.av_frame.proofs.kernel.Kernel.row.Given as goal

abbrev pub invariant-loop-column : goal.invariant-loop-column
invariant-loop-column g l = record {
  sources : l.sources ≡ l.initial.sources;
  out : (c : ℕ) → c < l.column → get_or l.out c 0 ≡ g.Self.Kernel.value l.self l.initial.sources l.plane l.row c;
}
