use Rattle.std.proofs.Common.{drop, ◌∙◌, length, take, get_or, ap}
use Rattle.std.proofs.lemmas.List.{take_more, take_at}
use Rattle.graph_plan.specs.Joining.{graph_of}
use Rattle.graph_plan.proofs.TurnLemmas.{taken_none, input_within, so_far_none, so_far_more, kind_there, fails_at, links_all}
use Rattle.graph_plan.proofs.ScanLemmas.{no_inlet}
use Rattle.graph_plan.proofs.turns.take_files.Goals as goal

pub inlets-init : goal.inlets-init
inlets-init c =
    let g = graph_of c.args.parts.now in
    rw c.new-links.ensures.items (so_far_none g c.in_ok-taken.taken.items (taken_none g c.requires.fit c.args.inlets.now c.requires.inlets c.in_ok-taken.taken.items c.in_ok-taken.ensures.each c.in_ok-taken.ensures.marked))

pub source_of-requires-clause-there : goal.source_of-requires-clause-there
source_of-requires-clause-there c = kind_there (graph_of c.args.parts.now) c.args.inlets.now c.inlets.inlet-index no_inlet c.requires.inlets c.inlets-test.true

pub returns-in_default-clause-fault : goal.returns-in_default-clause-fault
returns-in_default-clause-fault c outputs sound straight =
    let g = graph_of c.args.parts.now in
    let none = c.in_default.ensures c.inlets.links.items (rw c.as_slice.ensures.value c.inlets.invariant.taken) in
    (sound, straight, fails_at g c.args.inlets.now c.inlets.inlet-index no_inlet c.inlets.links.items c.inlets.taken.items c.requires.inlets c.inlets-test.true c.inlets.invariant none)

pub mark_file-requires : goal.mark_file-requires
mark_file-requires c =
    let g = graph_of c.args.parts.now in
    let origin = c.in-Some.ensures c.inlets.links.items (rw c.as_slice.ensures.value c.inlets.invariant.taken) in
    let within = input_within g c.inlets.links.items (get_or c.args.inlets.now c.inlets.inlet-index no_inlet).taker c.in-Some.from c.input_of.result origin c.input_of.ensures in
    rw (ap length c.as_mut_slice.ensures.value ∙ c.inlets.invariant.taken.each) within

pub inlets-preserved : goal.inlets-preserved
inlets-preserved c =
    let g = graph_of c.args.parts.now in
    let inlets = c.args.inlets.now in
    let index = c.inlets.inlet-index in
    let inlet = get_or inlets index no_inlet in
    let new = c.mark_file.new.taken in
    let all = take_at new (drop (length new) c.inlets.taken.items) c.inlets.taken.len (c.mark_file.auto.taken ∙ c.as_mut_slice.ensures.len) in
    let origin = c.in-Some.ensures c.inlets.links.items (rw c.as_slice.ensures.value c.inlets.invariant.taken) in
    rw (all, c.in_ok-push.ensures.items, take_more inlets index no_inlet c.inlets-test.true)
    (so_far_more g (take index inlets) inlet c.inlets.links.items c.in-Some.from c.input_of.result c.inlets.taken.items new
    c.inlets.invariant origin c.input_of.ensures (rw c.as_mut_slice.ensures.value at c.mark_file.ensures))

pub returns-clause-links : goal.returns-clause-links
returns-clause-links c = links_all (graph_of c.args.parts.now) c.args.inlets.now c.inlets.inlet-index c.inlets.links.items c.inlets.taken.items c.requires.inlets c.inlets-test.false c.inlets.invariant
