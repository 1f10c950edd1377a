use Rattle.std.proofs.Common.{ℕ, ◌-◌, take, ◌++◌, arith, length-take, length-append, ◌∙◌}
use Rattle.std.proofs.lemmas.Result.{err_from_is_err_and}
use Rattle.std.proofs.lemmas.List.{length-take-le}
use Rattle.y4m_io.proofs.ReadLemmas.{ReadsSome-append, ended_after, unwrapped}
use Rattle.av_host.proofs.Runs.{Reads-append}
use Rattle.y4m_io.proofs.reader.skip.Goals as goal

pub returns-in_err-n-clause-refused : goal.returns-in_err-n-clause-refused
returns-in_err-n-clause-refused g c =
    let p = err_from_is_err_and c.from_residual.result c.from_residual.ensures.1 in
    let inv = c.loop-skipped.invariant.read in
    rw p.1 (ReadsSome-append (inv.0, inv.2) c.in_err-n.ensures.refused)

pub loop-skipped-preserved : goal.loop-skipped-preserved
loop-skipped-preserved g c =
    let inv = c.loop-skipped.invariant in
    let now = c.in_ok-n.ensures in
    let left = unwrapped c.try_from.result (c.args.most - c.loop-skipped.skipped) 65536 c.try_from.ensures (omega arith) in
    let piece = length-take-le c.in_ok-n.n c.fill.new.buf now.fits in
    let both = length-append inv.read.0 (take c.in_ok-n.n c.fill.new.buf) in
    let long = c.fill.auto.buf in
    let read = inv.read in
    record {
      within = omega (arith, now.fits, c.unwrap_or.ensures, c.min-size.ensures, length-take {A = ℕ});
      read = (read.0 ++ take c.in_ok-n.n c.fill.new.buf, omega (arith, read.1), Reads-append read.2 now.read);
      faults = now.faults ∙ inv.faults;
    }

pub returns-then-n-size-clause-read : goal.returns-then-n-size-clause-read
returns-then-n-size-clause-read g c =
    let read = c.loop-skipped.invariant.read in
    let now = c.in_ok-n.ensures in
    let piece = length-take-le c.in_ok-n.n c.fill.new.buf now.fits in
    let both = length-append read.0 (take c.in_ok-n.n c.fill.new.buf) in
    (read.0 ++ take c.in_ok-n.n c.fill.new.buf, omega (arith, read.1), Reads-append read.2 now.read)

pub returns-then-n-size-clause-end : goal.returns-then-n-size-clause-end
returns-then-n-size-clause-end g c = λ short.
    let read = c.loop-skipped.invariant.read in
    let now = c.in_ok-n.ensures in
    let long = c.fill.auto.buf in
    let all = c.requires.long in
    let same = c.loop-skipped.auto.buffer in
    ended_after (g.H.Host.world c.fill.new.host) read.2 (now.end (omega (arith, c.min-size.ensures, length-take {A = ℕ})))
