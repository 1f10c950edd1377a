use Rattle.std.proofs.Common.{◌≡◌, ℕ, List, sym, ◌∙◌, subst}
use Rattle.std.proofs.lemmas.Option.{same_Some}
use Rattle.graph_plan.specs.Joining.{graph_of, IsNoted}
use Rattle.graph_plan.proofs.TableLemmas.{seen_skip}
use Rattle.graph_plan.proofs.labels.note_place.Goals as goal

pub returns-in_default : goal.returns-in_default
returns-in_default c seen is =
    seen_skip (graph_of c.args.parts.now) c.args.side (IsNoted c.args.side c.args.others.now) seen c.args.place c.args.table.now is (λ name labelled such. let none = c.in_default.ensures in cc)

pub returns-then-not-is_noted : goal.returns-then-not-is_noted
returns-then-not-is_noted c seen is =
    let no = c.if-not-is_noted.true in
    seen_skip (graph_of c.args.parts.now) c.args.side (IsNoted c.args.side c.args.others.now) seen c.args.place c.args.table.now is (λ name labelled such.
    let same : name ≡ c.in-Some.name.now = same_Some name c.in-Some.name.now (sym labelled ∙ c.in-Some.ensures) in
    let P : List ℕ → Type 0 = λ n. IsNoted c.args.side c.args.others.now n in
    let noted = c.is_noted.ensures.1 (subst P same such) in
    cc)
