use Rattle.std.proofs.Common.{refl, sym, ◌∙◌}
use Rattle.std.proofs.lemmas.Map.Text.{hash_map_updates_str}
use Rattle.graph_plan.specs.Bindings.{Label}
use Rattle.graph_plan.specs.Places.{pad_called}
use Rattle.graph_plan.proofs.TableLemmas.{some_found, none_found}
use Rattle.graph_plan.proofs.CalledLemmas.{called_number, called_again, called_new}
use Rattle.graph_plan.proofs.called.add_pad.Goals as goal

pub returns-in_default-clause-called : goal.returns-in_default-clause-called
returns-in_default-clause-called c names each is = rw c.in_default.is (called_number names c.args.place c.args.table.now (record { labelled = c.args.table.now.labelled; numbered = c.push.new.self }) each is refl c.in_ok-push.ensures.items)

pub returns-in_ok-insert-clause-called : goal.returns-in_ok-insert-clause-called
returns-in_ok-insert-clause-called c names each is =
    let table = c.args.table.now in
    let label = c.as_str-label.result.now in
    let none = none_found (pad_called table (Label label)) (sym c.contains_key.ensures ∙ c.if-not-contains_key.true) in
    rw (c.in-Some.is, sym c.as_str-label.ensures) (called_new names c.args.place label table (record { labelled = c.insert.new.self; numbered = table.numbered }) each is none refl (λ other. hash_map_updates_str label table.labelled c.insert.new.self _ c.in_ok-insert.ensures.updates other))

pub returns-else-not-contains_key-clause-called : goal.returns-else-not-contains_key-clause-called
returns-else-not-contains_key-clause-called c names each is =
    let table = c.args.table.now in
    let label = c.as_str-label.result.now in
    rw (c.in-Some.is, sym c.as_str-label.ensures) (called_again names label table is (some_found (pad_called table (Label label)) (sym c.contains_key.ensures ∙ c.if-not-contains_key.false)))
