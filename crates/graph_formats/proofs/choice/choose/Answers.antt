use Rattle.std.proofs.Common.{arith, ap, ◌∙◌, false, Ok}
use Rattle.graph_formats.specs.Demands.{asked_of}
use Rattle.graph_formats.proofs.ChoiceLemmas.{root_low, sound, first_start, mark_low, passed_by, none_fits, choosing_more, all_chosen}
use Rattle.graph_formats.proofs.LawLemmas.{one_assignment, one_fault, not_both}
use Rattle.graph_formats.proofs.choice.choose.Goals as goal
use Rattle.graph_formats.proofs.choice.choose.Goals.{else-not-index-via-then-not-index+in_ok-settle+else-not-branch, else-not-index-via-else-not-index}

pub links-init : goal.links-init
links-init c = first_start c.args.links c.args.wishes.now c.as_slice.result.now c.args.relations.now c.as_slice-2.result.now c.in_ok-demands.demands c.requires c.as_slice.ensures c.as_slice-2.ensures c.in_ok-demands.ensures c.in_ok-draft.draft c.in_ok-draft.ensures.each c.in_ok-draft.ensures.none

pub index-requires : goal.index-requires
index-requires c =
    let low = mark_low c.args.links c.args.wishes.now c.as_slice.result.now c.args.relations.now c.as_slice-2.result.now c.in_ok-demands.demands c.requires c.as_slice.ensures c.as_slice-2.ensures c.in_ok-demands.ensures
    c.links.draft c.links.link false c.links.invariant c.links-test.true in
    omega (arith, c.links.draft.given.ok)

pub settle-requires-clause-demands : goal.settle-requires-clause-demands
settle-requires-clause-demands c = sound c.args.links c.args.wishes.now c.as_slice.result.now c.args.relations.now c.as_slice-2.result.now c.in_ok-demands.demands c.requires c.as_slice.ensures c.as_slice-2.ensures c.in_ok-demands.ensures

pub settle-requires-clause-below : goal.settle-requires-clause-below
settle-requires-clause-below c = root_low c.args.links c.args.wishes.now c.as_slice.result.now c.args.relations.now c.as_slice-2.result.now c.in_ok-demands.demands c.requires c.as_slice.ensures c.as_slice-2.ensures c.in_ok-demands.ensures c.links.link c.links-test.true

pub returns-then-not-branch-clause-chooses : goal.returns-then-not-branch-clause-chooses
returns-then-not-branch-clause-chooses c formats is =
    let fault = none_fits c.args.links c.args.wishes.now c.as_slice.result.now c.args.relations.now c.as_slice-2.result.now c.in_ok-demands.demands c.requires c.as_slice.ensures c.as_slice-2.ensures c.in_ok-demands.ensures
    c.links.draft c.links.link c.index.result.now c.links.invariant c.links-test.true c.index.ensures c.if-not-index.true (c.in_ok-settle.ensures.fails (ap Ok c.if-not-branch.true)) in
    not_both c.args.links c.args.wishes.now c.args.relations.now formats c.links.link is.assignment fault

pub returns-then-not-branch-clause-fault : goal.returns-then-not-branch-clause-fault
returns-then-not-branch-clause-fault c = none_fits c.args.links c.args.wishes.now c.as_slice.result.now c.args.relations.now c.as_slice-2.result.now c.in_ok-demands.demands c.requires c.as_slice.ensures c.as_slice-2.ensures c.in_ok-demands.ensures
    c.links.draft c.links.link c.index.result.now c.links.invariant c.links-test.true c.index.ensures c.if-not-index.true (c.in_ok-settle.ensures.fails (ap Ok c.if-not-branch.true))

pub returns-then-not-branch-clause-faulty : goal.returns-then-not-branch-clause-faulty
returns-then-not-branch-clause-faulty c link is =
    let fault = none_fits c.args.links c.args.wishes.now c.as_slice.result.now c.args.relations.now c.as_slice-2.result.now c.in_ok-demands.demands c.requires c.as_slice.ensures c.as_slice-2.ensures c.in_ok-demands.ensures
    c.links.draft c.links.link c.index.result.now c.links.invariant c.links-test.true c.index.ensures c.if-not-index.true (c.in_ok-settle.ensures.fails (ap Ok c.if-not-branch.true)) in
    one_fault c.args.links c.args.wishes.now c.args.relations.now c.links.link link fault is

pub links-preserved : goal.links-preserved
links-preserved c = elim c.else-not-index.branch [
  | else-not-index-via-then-not-index+in_ok-settle+else-not-branch w ↦ rw w.draft-is
      (choosing_more (asked_of c.in_ok-demands.demands) c.links.draft w.settle.new.self c.links.link c.links.invariant w.in_ok-settle.ensures.settled w.in_ok-settle.ensures.lower
      (w.in_ok-settle.ensures.fits (ap Ok w.if-not-branch.false)))
  | else-not-index-via-else-not-index w ↦ rw w.draft-is
      (passed_by c.args.links c.args.wishes.now c.as_slice.result.now c.args.relations.now c.as_slice-2.result.now c.in_ok-demands.demands c.requires c.as_slice.ensures c.as_slice-2.ensures c.in_ok-demands.ensures
      c.links.draft c.links.link c.index.result.now c.links.invariant c.links-test.true c.index.ensures w.if-not-index.false)
]

pub returns-clause-chosen : goal.returns-clause-chosen
returns-clause-chosen c = rw c.new-3.ensures
    (all_chosen c.args.links c.args.wishes.now c.as_slice.result.now c.args.relations.now c.as_slice-2.result.now c.in_ok-demands.demands c.requires c.as_slice.ensures c.as_slice-2.ensures c.in_ok-demands.ensures c.links.draft c.links.link c.links.invariant c.links-test.false)

pub returns-clause-chooses : goal.returns-clause-chooses
returns-clause-chooses c formats is =
    let chosen = all_chosen c.args.links c.args.wishes.now c.as_slice.result.now c.args.relations.now c.as_slice-2.result.now c.in_ok-demands.demands c.requires c.as_slice.ensures c.as_slice-2.ensures c.in_ok-demands.ensures c.links.draft c.links.link c.links.invariant c.links-test.false in
    c.new-3.ensures ∙ one_assignment c.args.links c.args.wishes.now c.args.relations.now c.links.draft.formats.items formats chosen is

pub returns-clause-faulty : goal.returns-clause-faulty
returns-clause-faulty c link is =
    let chosen = all_chosen c.args.links c.args.wishes.now c.as_slice.result.now c.args.relations.now c.as_slice-2.result.now c.in_ok-demands.demands c.requires c.as_slice.ensures c.as_slice-2.ensures c.in_ok-demands.ensures c.links.draft c.links.link c.links.invariant c.links-test.false in
    not_both c.args.links c.args.wishes.now c.args.relations.now c.links.draft.formats.items link chosen.assignment is
