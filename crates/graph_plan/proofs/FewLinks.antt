-- A plan has a link for each input pad and each output, which are few.
use Rattle.std.proofs.Common.{◌≡◌, ◌≤◌, ◌+◌, ℕ, zero, suc, List, [], ◌∷◌, ◌++◌, length, sum_by, length-append, refl, sym, ◌∙◌, ap, inl, inr, arith}
use Rattle.std.proofs.lemmas.Bool.{cases_lt}
use Rattle.std.proofs.lemmas.List.Sums.{sum_by-cons}
use Rattle.graph_plan.specs.declared.places.Place.{Place}
use Rattle.graph_plan.specs.declared.places.Side.TheVariants.{In}
use Rattle.graph_plan.specs.declared.plan.Edge.{Edge}
use Rattle.graph_plan.specs.declared.plan.Pads.{Pads}
use Rattle.graph_plan.specs.declared.plan.OutputFile.{OutputFile}
use Rattle.graph_plan.specs.declared.plan.DraftPlan.{DraftPlan}
use Rattle.graph_plan.specs.declared.plan.Plan.{Plan}
use Rattle.graph_plan.specs.Bindings.{IsBound}
use Rattle.graph_plan.specs.Graphs.{Graph, places_of, places, pads_on}
use Rattle.graph_plan.specs.Links.{AreLinks}
use Rattle.graph_plan.specs.Refusals.{IsLinked, most_links}

links_of : (graph : Graph) (before : List Edge) (takers : List Place) (links : List Edge) → AreLinks graph before takers links → length links ≡ length takers
links_of graph before [] [] are = refl
links_of graph before [] (link ∷ links) are = absurd are
links_of graph before (taker ∷ takers) [] are = absurd are
links_of graph before (taker ∷ takers) (link ∷ links) are = ap suc (links_of graph (before ++ link ∷ []) takers links are.1)

places_long : (filter pad count : ℕ) → length (places_of filter pad count) ≡ count
places_long filter pad zero = refl
places_long filter pad (suc count) = ap suc (places_long filter (pad + 1) count)

pads_long : (filter : ℕ) (pads : List Pads) → length (places (λ (p : Pads). length p.ins) filter pads) ≡ sum_by (λ (p : Pads). length p.ins) pads
pads_long filter [] = refl
pads_long filter (p ∷ ps) =
    length-append (places_of filter 0 (length p.ins)) (places (λ (q : Pads). length q.ins) (filter + 1) ps)
    ∙ (ap (λ (n : ℕ). n + length (places (λ (q : Pads). length q.ins) (filter + 1) ps)) (places_long filter 0 (length p.ins)) ∙ ap (λ (n : ℕ). length p.ins + n) (pads_long (filter + 1) ps) ∙ sym (sum_by-cons (λ (q : Pads). length q.ins) p ps))

pub few_links : (graph : Graph) (draft : DraftPlan) (files : List OutputFile) (plan : Plan) (outputs : ℕ) → length files ≡ outputs → IsLinked graph outputs draft → IsBound draft files plan → length plan.links ≤ most_links
few_links graph draft files plan outputs count linked bound =
    let whole = ap length bound.links ∙ length-append draft.links bound.outputs in
    let ins = links_of graph [] (pads_on graph In) draft.links linked.draft_is.links in
    let pads = pads_long 0 graph.pads in
    let outs = bound.are_outputs.each in
    elim (cases_lt most_links (length plan.links)) [
      | inl many ↦ absurd (linked.sound.few (omega arith))
      | inr few ↦ few
    ]
