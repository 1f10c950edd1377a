use Rattle.av_text.specs.Classes.{is_name}
use Rattle.av_expr.proofs.AtomLemmas.{some_run, name_stops}
use Rattle.av_text.proofs.Places.{later_rest, later_place}
use Rattle.av_expr.proofs.atoms.read_variable.Goals as goal

pub skip_white-requires : goal.skip_white-requires
skip_white-requires c =
    let run = rw c.range_from.ensures.value at c.split_run.ensures.run in
    (later_place c.args.text.now c.args.place c.split_run.result.0.now c.split_run.result.1.now c.requires.place.0 c.split_run.ensures.utf8 run.text_is).1

pub returns-in-Some-clause-variable : goal.returns-in-Some-clause-variable
returns-in-Some-clause-variable c =
    let text = c.args.text.now in
    let name = c.split_run.result.0.now in
    let rest = c.split_run.result.1.now in
    let run = rw c.range_from.ensures.value at c.split_run.ensures.run in
    let b = c.requires.begins in
    let some = some_run is_name _ name rest b.1 b.0 run b.2 b.3 in
    (name, rest, (run, some, name_stops b), c.in-Some.ensures.variable, rw (later_rest text c.args.place name rest run.text_is) at c.skip_white.ensures.skips)
