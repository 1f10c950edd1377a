use Rattle.std.proofs.Common.{◌≡◌, [], take, drop, length, Some, Ok, ◌∙◌, ap}
use Rattle.std.proofs.lemmas.Result.{err_from_is_err_and}
use Rattle.std.proofs.lemmas.List.{nil_from_length}
use Rattle.av_host.proofs.Runs.{Reads-append, Reads-stays}
use Rattle.av_host.proofs.host_runs.fill.Goals as goal

pub returns-in_err-n-clause-refused : goal.returns-in_err-n-clause-refused
returns-in_err-n-clause-refused g c =
    let p = err_from_is_err_and c.from_residual.result c.from_residual.ensures.1 in
    rw p.1 (take c.loop-filled.filled c.loop-filled.buf, Reads-stays c.loop-filled.invariant.1 c.in_err-n.ensures.refused)

pub loop-filled-preserved : goal.loop-filled-preserved
loop-filled-preserved g c =
    let inv = c.loop-filled.invariant in
    let now = c.in_ok-n.ensures in
    let r = now.read in
    (now.fits, rw r.2 (Reads-append inv.1 r.3), now.faults ∙ inv.2)

pub returns-then-n-eq0-clause-end : goal.returns-then-n-eq0-clause-end
returns-then-n-eq0-clause-end g c = λ short all told.
    let w = g.H.Host.world c.loop-filled.host in
    let inv = c.loop-filled.invariant.1 in
    let now = c.in_ok-n.ensures in
    let rest = drop (length (take c.loop-filled.filled c.loop-filled.buf)) all in
    let before : w.inputs.left c.args.id ≡ Some rest = inv.inputs.left all told in
    let none : rest ≡ [] = now.end (ap Ok c.if-n-eq0.true) rest before in
    let r = now.read in
    let quiet : r.0 ≡ [] = nil_from_length r.0 (r.1 ∙ c.if-n-eq0.true) in
    let after = r.3.inputs.left rest before in
    rw (quiet, none) at after
