use Rattle.av_text.proofs.Places.{later_rest, later_place}
use Rattle.av_text.proofs.classes.skip_white.Goals as goal

pub returns-clause-skips : goal.returns-clause-skips
returns-clause-skips c =
    let text = c.args.text.now in
    let run = rw c.range_from.ensures.value at c.split_run.ensures.run in
    (c.split_run.result.0.now, rw (later_rest text c.args.place c.split_run.result.0.now c.split_run.result.1.now run.text_is) run)

pub returns-clause-later : goal.returns-clause-later
returns-clause-later c =
    let run = rw c.range_from.ensures.value at c.split_run.ensures.run in
    later_place c.args.text.now c.args.place c.split_run.result.0.now c.split_run.result.1.now (c.requires.0) c.split_run.ensures.utf8 run.text_is
