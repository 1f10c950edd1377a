use Rattle.std.proofs.Common.{◌∙◌, refl, sym}
use Rattle.std.proofs.lemmas.Map.Text.{hash_map_updates_str}
use Rattle.graph_plan.specs.Joining.{pad_of, IsNoted}
use Rattle.graph_plan.proofs.TableLemmas.{some_found, found_some, seen_again, seen_new}
use Rattle.graph_plan.proofs.labels.note_label.Goals as goal

pub returns-then-contains_key : goal.returns-then-contains_key
returns-then-contains_key c graph side others seen labelled noted is =
    let has = some_found (pad_of c.args.table.now c.args.name.now) (sym c.contains_key.ensures ∙ c.if-contains_key.true) in
    seen_again graph side (IsNoted side others) seen c.args.place c.args.name.now c.args.table.now _ is labelled noted has refl c.or-table.ensures

pub returns : goal.returns
returns c graph side others seen labelled noted is =
    let table = c.args.table.now in
    let name = c.args.name.now in
    seen_new graph side (IsNoted side others) seen c.args.place name table _ is labelled noted
    (λ has. let here = found_some (pad_of table name) has.0 has.1 in let none = sym c.contains_key.ensures ∙ c.if-contains_key.false in cc)
    (λ other. hash_map_updates_str name table.pads c.insert.new.self _ c.in_ok-insert.ensures.updates other) refl
