use Rattle.av_text.specs.Classes.{is_digit}
use Rattle.av_expr.proofs.AtomLemmas.{run_here, nineteenth}
use Rattle.av_text.proofs.Places.{later_place}
use Rattle.av_expr.proofs.atoms.read_digits.Goals as goal

pub returns-then-digits-gt-MOST-clause-fault : goal.returns-then-digits-gt-MOST-clause-fault
returns-then-digits-gt-MOST-clause-fault c =
    let run = rw c.range_from.ensures.value at c.split_run.ensures.run in
    rw c.fault.ensures (nineteenth c.args.text.now c.args.place c.split_run.result.0.now c.split_run.result.1.now c.requires.place.0 run c.if-digits-gt-MOST.true)

pub returns-clause-digits : goal.returns-clause-digits
returns-clause-digits c =
    let run = rw c.range_from.ensures.value at c.split_run.ensures.run in
    run_here is_digit c.args.text.now c.args.place c.split_run.result.0.now c.split_run.result.1.now c.requires.place.0 run

pub returns-clause-later : goal.returns-clause-later
returns-clause-later c =
    let run = rw c.range_from.ensures.value at c.split_run.ensures.run in
    later_place c.args.text.now c.args.place c.split_run.result.0.now c.split_run.result.1.now c.requires.place.0 c.split_run.ensures.utf8 run.text_is
