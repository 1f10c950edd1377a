use Rattle.std.proofs.Common.{[], ◌∷◌, ◌++◌, List, get_or, ◌∙◌, ap, arith, append_assoc}
use Rattle.std.proofs.lemmas.List.{length_push}
use Rattle.std.proofs.lemmas.Option.{slice_get-get_or}
use Rattle.graph_plan.specs.declared.plan.Edge.{Edge}
use Rattle.graph_plan.specs.Bindings.{link_to_output}
use Rattle.graph_plan.proofs.BindLemmas.{link_more}
use Rattle.graph_plan.proofs.bind.push_outputs.Goals as goal

pub places-preserved : goal.places-preserved
places-preserved c =
    let i = c.places.invariant in
    let places = c.args.places.now in
    let link = link_to_output c.index-pads-place.result c.places.output in
    let within = c.requires.within c.places.output (get_or places c.places.output 0) (slice_get-get_or places c.places.output 0 c.places-test.true) in (
      i.0 ++ link ∷ [],
      c.in_ok-push.ensures.items ∙ (ap (λ (z : List Edge). z ++ link ∷ []) i.1 ∙ append_assoc c.args.links.items i.0 (link ∷ [])),
      omega (arith, i.2, length_push i.0 link),
      link_more c.places.output c.index-pads-place.result i.3 i.2 c.places-test.true within c.index-pads-place.is,
    )
