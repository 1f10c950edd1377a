use Rattle.std.proofs.Common.{◌≡◌, take}
use Rattle.av_host.specs.Calls.{Reads}
use Rattle.y4m_io.specs.Pieces.{IsMarkFront}
use Rattle.y4m_io.proofs.reader.read_mark.Given as goal

abbrev pub invariant-loop-n : goal.invariant-loop-n
invariant-loop-n g l = record {
  reads : Reads (g.H.Host.world l.fn.host) (g.H.Host.world l.host) l.id (take l.n l.buffer);
  front : IsMarkFront (take l.n l.buffer);
  faults : (g.H.Host.world l.host).faults ≡ (g.H.Host.world l.fn.host).faults;
}
