use Rattle.std.proofs.Common.{◌≡◌, ◌<◌, ◌+◌, ℕ, get_or}
use Rattle.av_frame.specs.Geometries.{place}
use Rattle.av_frame.proofs.page.read_down.Given as goal

abbrev pub invariant-loop-i : goal.invariant-loop-i
invariant-loop-i l = (k : ℕ) → k < l.i → get_or l.out k 0 ≡ get_or l.bytes (place l.geometry (l.row + k) + l.column) 0
