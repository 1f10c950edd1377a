use Rattle.std.proofs.Common.{◌∙◌, sym}
use Rattle.graph_plan.specs.Joining.{graph_of, pad_of}
use Rattle.graph_plan.proofs.TableLemmas.{some_found, found_some}
use Rattle.graph_plan.proofs.OpenLemmas.{label_taken, bare_taken}
use Rattle.graph_plan.proofs.opens.is_taken.Goals as goal

pub returns-in-Some : goal.returns-in-Some
returns-in-Some c =
    let ins = c.args.ins.now in
    let name = c.in-Some.name.now in
    let both = label_taken (graph_of c.args.parts.now) c.args.giver ins c.requires.ins name c.in-Some.ensures in
    (λ t. both.0 (some_found (pad_of ins name) (sym c.contains_key.ensures ∙ t)), λ is. let has = both.1 is in c.contains_key.ensures ∙ found_some (pad_of ins name) has.0 has.1)

pub returns-in-None : goal.returns-in-None
returns-in-None c =
    let both = bare_taken (graph_of c.args.parts.now) c.args.giver c.requires.there.0 c.requires.there.1 c.in-None.ensures in
    (λ t. both.0 (c.is_followed.ensures.0 t), λ is. c.is_followed.ensures.1 (both.1 is))
