use Rattle.std.proofs.Common.{◌≡◌, ◌+◌, ◌++◌, ◌∷◌, [], List, sym, ◌∙◌, ap, arith, append_assoc}
use Rattle.graph_plan.specs.declared.places.Place.{Place}
use Rattle.graph_plan.specs.Graphs.{places_of}
use Rattle.graph_plan.proofs.GraphLemmas.{places_of_more}
use Rattle.graph_plan.proofs.places.push_places.Goals as goal

pub pads-preserved : goal.pads-preserved
pads-preserved c =
    let old = c.args.places.items in
    let before = places_of c.args.filter 0 c.pads.pad in
    let from : 0 + c.pads.pad ≡ c.pads.pad = omega arith in
    let more : places_of c.args.filter 0 (c.pads.pad + 1) ≡ before ++ (record { filter = c.args.filter; pad = c.pads.pad }) ∷ [] =
    rw from at (places_of_more c.args.filter 0 c.pads.pad) in
    c.in_ok-push.ensures.items ∙ (ap (λ (xs : List Place). xs ++ (record { filter = c.args.filter; pad = c.pads.pad }) ∷ []) c.pads.invariant
    ∙ (append_assoc old before _ ∙ ap (λ (xs : List Place). old ++ xs) (sym more)))
