use Rattle.std.proofs.Common.{length, ◌-◌, ◌≡◌, ◌≤◌, take}
use Rattle.av_host.specs.Calls.{Reads}
use Rattle.av_host.proofs.host_runs.fill.Given as goal

abbrev pub invariant-loop-filled : goal.invariant-loop-filled
invariant-loop-filled g l =
    (l.filled ≤ length l.buf)
    × Reads (g.H.Host.world l.initial.host) (g.H.Host.world l.host) l.id (take l.filled l.buf)
    × ((g.H.Host.world l.host).faults ≡ (g.H.Host.world l.initial.host).faults)

abbrev pub decreases-loop-filled : goal.decreases-loop-filled
decreases-loop-filled g l = length l.initial.buf - l.filled
