use Rattle.std.proofs.Common.{◌≡◌, take}
use Rattle.std.specs.List.{Contains}
use Rattle.av_host.specs.Calls.{Reads}
use Rattle.y4m_io.proofs.reader.read_line.Given as goal

abbrev pub invariant-loop-n : goal.invariant-loop-n
invariant-loop-n g l =
    Reads (g.H.Host.world l.initial.host) (g.H.Host.world l.host) l.id (take l.n l.buffer)
    × (¬ Contains (take l.n l.buffer) 10)
    × ((g.H.Host.world l.host).faults ≡ (g.H.Host.world l.initial.host).faults)
