use Rattle.std.proofs.Common.{◌≡◌, length, ◌∙◌}
use Rattle.av_text.proofs.Places.{later_rest, later_place, some_from_test}
use Rattle.graph_text.proofs.names.read_name.Goals as goal

pub returns-clause-name : goal.returns-clause-name
returns-clause-name c =
    let text = c.args.text.now in
    let run = rw c.range_from.ensures.value at c.split_run.ensures.run in
    let same : c.new-name.result ≡ c.split_run.result.0.now = c.new-name.ensures ∙ c.in_ok-from_str.ensures.ok in
    rw (same, later_rest text c.args.place c.split_run.result.0.now c.split_run.result.1.now run.text_is) (run, some_from_test (length c.split_run.result.0.now) c.if-is_empty.ensures)

pub returns-clause-later : goal.returns-clause-later
returns-clause-later c =
    let run = rw c.range_from.ensures.value at c.split_run.ensures.run in
    later_place c.args.text.now c.args.place c.split_run.result.0.now c.split_run.result.1.now c.requires.place.0 c.split_run.ensures.utf8 run.text_is
