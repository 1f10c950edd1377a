use Rattle.graph_plan.specs.Graphs.{Graph}
use Rattle.graph_plan.proofs.LinkLemmas.{links, refuses}
use Rattle.graph_plan.proofs.linking.link.Goals as goal

pub returns-clause-links : goal.returns-clause-links
returns-clause-links c =
    let g : Graph = record { calls = c.args.text.now.calls; pads = c.args.pads.now; files = c.args.inputs.now } in
    links g c.args.outputs c.requires c.draft.result (rw (c.as_slice.ensures, c.as_slice-2.ensures) at c.draft.ensures.draft) (rw (c.as_slice.ensures, c.as_slice-2.ensures) at c.draft.ensures.fault)

pub returns-clause-faulty : goal.returns-clause-faulty
returns-clause-faulty c =
    let g : Graph = record { calls = c.args.text.now.calls; pads = c.args.pads.now; files = c.args.inputs.now } in
    refuses g c.args.outputs c.requires c.draft.result (rw (c.as_slice.ensures, c.as_slice-2.ensures) at c.draft.ensures.draft) (rw (c.as_slice.ensures, c.as_slice-2.ensures) at c.draft.ensures.fault)
