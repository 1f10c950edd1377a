use Rattle.std.proofs.Common.{drop, ◌∙◌, length, ap, sym}
use Rattle.std.proofs.lemmas.List.{take_all, take_at}
use Rattle.graph_plan.proofs.TurnLemmas.{named_more, named_within}
use Rattle.graph_plan.proofs.ScanLemmas.{no_inlet}
use Rattle.graph_plan.proofs.turns.mark_named.Goals as goal

pub mark_file-requires : goal.mark_file-requires
mark_file-requires c =
    let each = ap length c.as_mut_slice.ensures.value ∙ c.inlets.invariant.each in
    rw each (named_within c.args.inlets.now c.inlets.inlet-index no_inlet c.named_by.result c.args.count c.inlets-test.true c.requires c.named_by.ensures)

pub inlets-preserved : goal.inlets-preserved
inlets-preserved c =
    let inlets = c.args.inlets.now in
    let index = c.inlets.inlet-index in
    let new = c.mark_file.new.taken in
    let all = take_at new (drop (length new) c.inlets.taken.items) c.inlets.taken.len (c.mark_file.auto.taken ∙ c.as_mut_slice.ensures.len) in
    let each = ap length c.as_mut_slice.ensures.value ∙ c.inlets.invariant.each in
    let within = rw (sym c.inlets.invariant.each) at (named_within inlets index no_inlet c.named_by.result c.args.count c.inlets-test.true c.requires c.named_by.ensures) in
    rw all (record {
      each = c.mark_file.auto.taken ∙ each;
      marked = named_more inlets index no_inlet c.named_by.result c.inlets.taken.items new c.inlets-test.true c.named_by.ensures (rw c.as_mut_slice.ensures.value at c.mark_file.ensures) within c.inlets.invariant.marked;
    })

pub returns-clause-marked : goal.returns-clause-marked
returns-clause-marked c = rw (take_all c.inlets.inlet-index c.args.inlets.now c.inlets-test.false) at c.inlets.invariant.marked
