use Rattle.std.proofs.Common.{length, ◌-◌, ◌≡◌, ◌≤◌, take}
use Rattle.av_host.specs.Calls.{Changes, appended}
use Rattle.av_host.proofs.host_runs.write_all.Given as goal

abbrev pub invariant-loop-done : goal.invariant-loop-done
invariant-loop-done g l =
    (l.done ≤ length l.piece)
    × Changes (g.H.Host.world l.initial.host) (g.H.Host.world l.host) l.id (appended (take l.done l.piece))
    × ((g.H.Host.world l.host).faults ≡ (g.H.Host.world l.initial.host).faults)

abbrev pub decreases-loop-done : goal.decreases-loop-done
decreases-loop-done g l = length l.piece - l.done
