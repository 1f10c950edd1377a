use Rattle.std.proofs.Common.{map, ap, sym, ◌∙◌, subst, length, inr}
use Rattle.graph_plan.specs.Graphs.{Graph}
use Rattle.graph_plan.specs.Refusals.{IsSmall, IsLinked}
use Rattle.node_core.specs.Shaping.{pads_of}
use Rattle.avgraph.specs.Requests.{given_by, AsksDraft, AsksKinds}
use Rattle.avgraph.proofs.RequestLemmas.{asked_next, graph_is, is_small}
use Rattle.avgraph.proofs.request.ask_kinds.Goals as goal

pub link-requires : goal.link-requires
link-requires c =
    let pads = c.in_ok-pads.ensures ∙ ap (map pads_of) c.as_slice.ensures.value in
    let media = c.as_slice-4.ensures.value ∙ (c.in_ok-media.ensures ∙ ap (map given_by) c.as_slice-2.ensures) in
    subst IsSmall (sym (graph_is c.args.graph.now.calls c.in_ok-pads.pads (map pads_of c.args.kinds.items) c.as_slice-4.result.now (map given_by c.args.command.now.inputs) pads media))
    (is_small c.args.command.now c.args.graph.now.calls c.args.kinds.items c.requires.calls c.requires.kinds c.requires.few)

pub returns : goal.returns
returns c =
    let pads = c.in_ok-pads.ensures ∙ ap (map pads_of) c.as_slice.ensures.value in
    let media = c.as_slice-4.ensures.value ∙ (c.in_ok-media.ensures ∙ ap (map given_by) c.as_slice-2.ensures) in
    let graph = graph_is c.args.graph.now.calls c.in_ok-pads.pads (map pads_of c.args.kinds.items) c.as_slice-4.result.now (map given_by c.args.command.now.inputs) pads media in
    let linked = rw c.as_slice-3.ensures at (subst (λ (g : Graph). IsLinked g (length c.as_slice-3.result.now) c.in-Ok.draft) graph c.in-Ok.ensures.draft) in
    asked_next (AsksDraft c.args.command.now c.args.graph.now.calls c.in-Ok.draft) (AsksKinds c.args.command.now c.args.graph.now.calls c.args.kinds.items) (λ r h. inr (c.in-Ok.draft, linked, h)) c.ask_draft.result
    (rw c.as_slice-5.ensures at c.ask_draft.ensures)
