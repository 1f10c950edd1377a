use Rattle.std.proofs.Common.{refl, arith}
use Rattle.graph_plan.specs.Joining.{graph_of, IsMismatched}
use Rattle.graph_plan.proofs.ScanLemmas.{scan_first, scan_more, scan_none, mismatch_listed, lowest_mismatch, never_mismatch, taker_at, inlet_count, no_inlet}
use Rattle.graph_plan.proofs.origins.check_kinds.Goals as goal

pub returns-then-is_mismatched-clause-fault : goal.returns-then-is_mismatched-clause-fault
returns-then-is_mismatched-clause-fault c outputs few =
    let g = graph_of c.args.parts.now in
    let fit = c.requires.fit in
    let here = taker_at g c.args.inlets.now c.inlets.inlet-index no_inlet c.requires.inlets c.inlets-test.true in
    let first = scan_first g (IsMismatched g) c.inlets.inlet-index _ (mismatch_listed g fit) here c.inlets.invariant (c.if-is_mismatched.ensures.0 refl) in
    (few, fit.counted.pads, fit.labels, c.requires.known, lowest_mismatch g fit _ first)

pub inlets-preserved : goal.inlets-preserved
inlets-preserved c =
    let g = graph_of c.args.parts.now in
    let here = taker_at g c.args.inlets.now c.inlets.inlet-index no_inlet c.requires.inlets c.inlets-test.true in
    scan_more g (IsMismatched g) c.inlets.inlet-index _ here c.inlets.invariant (λ is. let no = c.if-is_mismatched.ensures.1 is in cc)

pub returns-clause-agree : goal.returns-clause-agree
returns-clause-agree c =
    let g = graph_of c.args.parts.now in
    let count = inlet_count g c.args.inlets.now c.requires.inlets in
    never_mismatch g c.requires.fit (scan_none g (IsMismatched g) c.inlets.inlet-index (mismatch_listed g c.requires.fit) (omega (arith, count, c.inlets-test.false)) c.inlets.invariant)
