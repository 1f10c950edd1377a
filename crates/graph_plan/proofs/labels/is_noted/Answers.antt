use Rattle.std.proofs.Common.{◌≡◌, ◌∙◌, true, sym, subst}
use Rattle.graph_plan.specs.declared.places.Side.{Side}
use Rattle.graph_plan.specs.Joining.{pad_of, IsNoted}
use Rattle.graph_plan.proofs.TableLemmas.{some_found, found_some}
use Rattle.graph_plan.proofs.labels.is_noted.Goals as goal

pub returns-in-In : goal.returns-in-In
returns-in-In c =
    let at = pad_of c.args.others.now c.args.name.now in
    let P : Side → Type 0 = λ s. (c.contains_key.result ≡ true → IsNoted s c.args.others.now c.args.name.now) × (IsNoted s c.args.others.now c.args.name.now → c.contains_key.result ≡ true) in
    subst P (sym c.in-In.is) (λ t. some_found at (sym c.contains_key.ensures ∙ t), λ has. c.contains_key.ensures ∙ found_some at has.0 has.1)
