use Rattle.std.proofs.Common.{◌∙◌}
use Rattle.std.proofs.lemmas.List.{take_all, take_more}
use Rattle.graph_plan.specs.Joining.{graph_of, IsNoted}
use Rattle.graph_plan.proofs.CountLemmas.{labels_few}
use Rattle.graph_plan.proofs.TableLemmas.{seen_none, seen_all}
use Rattle.graph_plan.proofs.labels.index_labels.Goals as goal

pub label_places-requires-clause-each : goal.label_places-requires-clause-each
label_places-requires-clause-each c = labels_few (graph_of c.args.parts.now) c.requires c.args.side

pub labels-init : goal.labels-init
labels-init c = seen_none (graph_of c.args.parts.now) c.args.side (IsNoted c.args.side c.args.others.now) _ c.new-table.ensures.pads c.new-table.ensures.twice

pub labels-preserved : goal.labels-preserved
labels-preserved c = rw (take_more c.as_slice-place-items.result.now c.labels.place-index (record { filter = 0; pad = 0 }) c.labels-test.true) (c.in_ok-note_place.ensures _ c.labels.invariant)

pub returns : goal.returns
returns c = seen_all (graph_of c.args.parts.now) c.args.side (IsNoted c.args.side c.args.others.now) c.as_slice-place-items.result.now c.labels.table
    (c.as_slice-place-items.ensures.value ∙ c.in_ok-places.ensures) (rw (take_all c.labels.place-index c.as_slice-place-items.result.now c.labels-test.false) at c.labels.invariant)
