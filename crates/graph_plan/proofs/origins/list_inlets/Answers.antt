use Rattle.std.proofs.Common.{◌∙◌, List, sym, ap}
use Rattle.std.specs.List.{slice_get}
use Rattle.std.proofs.lemmas.Option.{slice_get-get_or}
use Rattle.graph_plan.specs.declared.places.Place.{Place}
use Rattle.graph_plan.specs.declared.places.Side.TheVariants.{In}
use Rattle.graph_plan.specs.Joining.{graph_of, IsUnknown}
use Rattle.graph_plan.proofs.CountLemmas.{pads_few}
use Rattle.graph_plan.proofs.ScanLemmas.{scan_first, scan_none, unknown_listed, lowest_unknown, never_unknown, inlets_none, inlets_more, inlets_all, no_place}
use Rattle.graph_plan.proofs.origins.list_inlets.Goals as goal

pub pad_places-requires-clause-each : goal.pad_places-requires-clause-each
pad_places-requires-clause-each c = pads_few (graph_of c.args.parts.now) c.requires.fit.counted In

pub takers-init : goal.takers-init
takers-init c = rw c.new-inlets.ensures.items (inlets_none (graph_of c.args.parts.now))

pub returns-in_default-clause-fault : goal.returns-in_default-clause-fault
returns-in_default-clause-fault c outputs few =
    let g = graph_of c.args.parts.now in
    let fit = c.requires.fit in
    let all = c.as_slice-taker-items.ensures.value ∙ c.in_ok-places.ensures in
    let here = ap (λ (xs : List Place). slice_get xs c.takers.taker-index) (sym all) ∙ slice_get-get_or c.as_slice-taker-items.result.now c.takers.taker-index no_place c.takers-test.true in
    let first = scan_first g (IsUnknown g) c.takers.taker-index _ (unknown_listed g fit) here c.takers.invariant.known c.in_default.ensures in
    (few, fit.counted.pads, fit.labels, lowest_unknown g _ first)

pub takers-preserved : goal.takers-preserved
takers-preserved c =
    let all = c.as_slice-taker-items.ensures.value ∙ c.in_ok-places.ensures in
    let here = ap (λ (xs : List Place). slice_get xs c.takers.taker-index) (sym all) ∙ slice_get-get_or c.as_slice-taker-items.result.now c.takers.taker-index no_place c.takers-test.true in
    rw c.in_ok-push.ensures.items (inlets_more (graph_of c.args.parts.now) c.takers.taker-index c.takers.inlets.items _ c.in-Some.origin here c.takers.invariant c.in-Some.ensures)

pub returns-clause-inlets : goal.returns-clause-inlets
returns-clause-inlets c =
    let all = c.as_slice-taker-items.ensures.value ∙ c.in_ok-places.ensures in
    inlets_all (graph_of c.args.parts.now) c.takers.taker-index c.takers.inlets.items (rw all at c.takers-test.false) c.takers.invariant

pub returns-clause-known : goal.returns-clause-known
returns-clause-known c =
    let g = graph_of c.args.parts.now in
    let all = c.as_slice-taker-items.ensures.value ∙ c.in_ok-places.ensures in
    never_unknown g (scan_none g (IsUnknown g) c.takers.taker-index (unknown_listed g c.requires.fit) (rw all at c.takers-test.false) c.takers.invariant.known)
