use Rattle.std.proofs.Common.{ℕ, ◌∙◌, arith, length-take, length-drop}
use Rattle.av_host.proofs.Runs.{Changes-append}
use Rattle.av_host.proofs.Pieces.{take-more}
use Rattle.av_host.proofs.host_runs.write_all.Goals as goal

pub loop-done-preserved : goal.loop-done-preserved
loop-done-preserved g c =
    let inv = c.loop-done.invariant in
    let now = c.in_ok-done.ensures in (
      omega (arith, now.fits, length-take {A = ℕ}, length-drop {A = ℕ}),
      rw (take-more c.loop-done.done c.in_ok-done.field-0 c.args.piece.now) (Changes-append _ _ inv.1 now.written),
      now.faults ∙ inv.2,
    )
