use Rattle.std.proofs.Common.{◌≡◌, ◌<◌, ◌≤◌, ◌-◌, ℕ, get_or}
use Rattle.filt_video.proofs.negate.negate_all.Given as goal

abbrev pub invariant-loop-sample : goal.invariant-loop-sample
invariant-loop-sample l = record {
  done : (k : ℕ) → k < l.sample-index → get_or l.row k 0 ≡ 255 - get_or l.initial.row k 0;
  left : (k : ℕ) → l.sample-index ≤ k → get_or l.row k 0 ≡ get_or l.initial.row k 0;
}
