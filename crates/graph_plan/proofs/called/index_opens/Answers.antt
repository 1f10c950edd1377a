use Rattle.std.proofs.lemmas.List.{take_all}
use Rattle.graph_plan.proofs.CalledLemmas.{called_more}
use Rattle.graph_plan.proofs.called.index_opens.Goals as goal

pub pads-preserved : goal.pads-preserved
pads-preserved c =
    let loop = c.pads.invariant in
    let more = called_more c.args.pads.now c.pads.place c.index-pads-place.result c.pads.table c.add_pad.new.table c.pads-test.true c.index-pads-place.is loop.called loop.numbered c.in_ok-add_pad.ensures.called c.in_ok-add_pad.ensures.numbered in
    record { called = more.0; numbered = more.1 }

pub returns : goal.returns
returns c = rw (take_all c.pads.place c.args.pads.now c.pads-test.false) at c.pads.invariant.called
