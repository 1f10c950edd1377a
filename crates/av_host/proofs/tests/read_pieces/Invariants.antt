use Rattle.std.proofs.Common.{IsTrue}
use Rattle.av_host.proofs.tests.read_pieces.Given as goal

abbrev pub invariant-loop : goal.invariant-loop
invariant-loop g l = IsTrue ((g.H.Host.world l.host).inputs.is_open l.id)
