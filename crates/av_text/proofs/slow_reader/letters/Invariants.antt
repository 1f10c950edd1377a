use Rattle.std.proofs.Common.{◌≤◌}
use Rattle.av_text.proofs.slow_reader.letters.Given as goal

abbrev pub invariant-loop-number : goal.invariant-loop-number
invariant-loop-number l = l.len ≤ 5

abbrev pub decreases-loop-number : goal.decreases-loop-number
decreases-loop-number l = l.number
