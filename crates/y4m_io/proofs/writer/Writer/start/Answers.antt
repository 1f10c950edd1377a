use Rattle.std.proofs.Common.{rules}
use Rattle.av_host.proofs.Runs.{Changes-nil}
use Rattle.y4m_header.proofs.KnownLemmas.{headers}
use Rattle.y4m_io.proofs.writer.Writer.start.Goals as goal

pub returns-in-Err-clause-writes : goal.returns-in-Err-clause-writes
returns-in-Err-clause-writes g c = ((0, Changes-nil (g.H.Host.world c.args.host.now) c.args.self.now.id), search rules)

pub returns-clause-short : goal.returns-clause-short
returns-clause-short g c = (headers.written c.args.self.now.shape (let i = c.self.invariant in let v = c.self.view_is in search (rules, i, v))).1.short
