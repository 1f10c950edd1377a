use Rattle.std.proofs.Common.{◌∙◌, List, subst, get_or}
use Rattle.std.specs.List.{Contains}
use Rattle.std.proofs.lemmas.List.{take_all}
use Rattle.std.proofs.lemmas.List.Elements.{Contains-get_or}
use Rattle.graph_plan.specs.declared.places.Place.{Place}
use Rattle.graph_plan.specs.declared.places.Side.TheVariants.{Out}
use Rattle.graph_plan.specs.Graphs.{kinds}
use Rattle.graph_plan.specs.Links.{AreLeft}
use Rattle.graph_plan.specs.Joining.{graph_of}
use Rattle.graph_plan.proofs.GraphLemmas.{places_item}
use Rattle.graph_plan.proofs.OpenLemmas.{left_more}
use Rattle.graph_plan.proofs.ScanLemmas.{no_place}
use Rattle.graph_plan.proofs.opens.list_opens.Goals as goal

pub push_left-requires-clause-there : goal.push_left-requires-clause-there
push_left-requires-clause-there c =
    let all = c.as_slice-giver-items.ensures.value ∙ c.in_ok-places.ensures in
    let P : List Place → Type 0 = λ ps. Contains ps (get_or c.as_slice-giver-items.result.now c.givers.giver-index no_place) in
    places_item (kinds Out) c.args.parts.now.pads.now _ (subst P all (Contains-get_or c.as_slice-giver-items.result.now c.givers.giver-index no_place c.givers-test.true))

pub givers-preserved : goal.givers-preserved
givers-preserved c =
    let more = c.in_ok-opens.ensures in
    rw more.1 (left_more (graph_of c.args.parts.now) c.as_slice-giver-items.result.now c.givers.giver-index no_place c.givers.opens.items more.0 c.givers-test.true c.givers.invariant more.2)

pub returns : goal.returns
returns c =
    let all = c.as_slice-giver-items.ensures.value ∙ c.in_ok-places.ensures in
    let P : List Place → Type 0 = λ ps. AreLeft (graph_of c.args.parts.now) ps c.givers.opens.items in
    subst P (take_all c.givers.giver-index c.as_slice-giver-items.result.now c.givers-test.false ∙ all) c.givers.invariant
