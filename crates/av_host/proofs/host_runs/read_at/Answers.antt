use Rattle.std.proofs.Common.{take, arith}
use Rattle.std.proofs.lemmas.List.{length-take-le}
use Rattle.av_host.proofs.Pieces.{take-written}
use Rattle.av_host.proofs.host_runs.read_at.Goals as goal

pub returns-clause-read : goal.returns-clause-read
returns-clause-read g c =
    let n = c.in_ok-n.n in
    let piece = take n c.read.new.buf in
    let now = c.in_ok-n.ensures in
    (piece, length-take-le n c.read.new.buf now.fits, take-written c.args.at n c.args.buf.now c.read.new.buf _ (omega arith) now.fits, now.read)
