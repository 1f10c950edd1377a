use Rattle.std.proofs.Common.{◌<◌, length, get_or, sym, arith}
use Rattle.node_core.specs.Shaping.{made_by}
use Rattle.avgraph.specs.Chains.{TakesFrom}
use Rattle.avgraph.proofs.ChainLemmas.{next_of, all_passed}
use Rattle.avgraph.proofs.chain.pass.Goals as goal

pub step-requires-after_bounds : goal.step-requires-after_bounds
step-requires-after_bounds g c = λ κs within.
    let F = g.F.Filter in
    let v = c.index-filters-i.result in
    let passing = c.loop-i.invariant c.requires.0 c.requires.1 c.requires.2 c.requires.3 c.requires.4 in
    let less : c.loop-i.i < length c.loop-i.filters = omega (arith, c.loop-i-test.true, c.loop-i.auto.filters) in
    let next = next_of F.pads F.rest F.accepts c.requires.0 c.requires.2 c.requires.1 c.loop-i.filters c.loop-i.i c.args.frame c.loop-i.current v c.index-filters-i.is less passing in
    (c.requires.0, made_by next.ready, rw passing.time c.requires.3, rw (sym c.index-filters-i.is) next.takes)

pub loop-i-preserved : goal.loop-i-preserved
loop-i-preserved g c = λ low readies t h all.
    let F = g.F.Filter in
    let v = c.index-filters-i.result in
    let passing = c.loop-i.invariant low readies t h all in
    let less : c.loop-i.i < length c.loop-i.filters = omega (arith, c.loop-i-test.true, c.loop-i.auto.filters) in
    let next = next_of F.pads F.rest F.accepts low t readies c.loop-i.filters c.loop-i.i c.args.frame c.loop-i.current v c.index-filters-i.is less passing in
    let w = get_or c.loop-i.filters c.loop-i.i v in
    let takes : TakesFrom low c.loop-i.current.shape (made_by next.ready) (F.pads w) (F.rest w) (F.accepts w) = rw (sym c.index-filters-i.is) next.takes in
    let now = rw (sym passing.time) at h in
    next.passes c.step.new.filter c.in_ok-current.current
    (c.in_ok-current.ensures.takes low (made_by next.ready) now takes)
    (c.in_ok-current.ensures.frame low (made_by next.ready) now takes)

pub returns-clause-frame : goal.returns-clause-frame
returns-clause-frame g c = λ low readies t h all.
    let F = g.F.Filter in
    (all_passed F.pads F.rest F.accepts low t readies c.loop-i.filters c.loop-i.i c.args.frame c.loop-i.current (omega (arith, c.loop-i-test.false, c.loop-i.auto.filters)) (c.loop-i.invariant low readies t h all)).1

pub returns-clause-shape : goal.returns-clause-shape
returns-clause-shape g c = λ low readies t h all.
    let F = g.F.Filter in
    (all_passed F.pads F.rest F.accepts low t readies c.loop-i.filters c.loop-i.i c.args.frame c.loop-i.current (omega (arith, c.loop-i-test.false, c.loop-i.auto.filters)) (c.loop-i.invariant low readies t h all)).2

pub returns-clause-take : goal.returns-clause-take
returns-clause-take g c = λ low readies t h all.
    let F = g.F.Filter in
    (all_passed F.pads F.rest F.accepts low t readies c.loop-i.filters c.loop-i.i c.args.frame c.loop-i.current (omega (arith, c.loop-i-test.false, c.loop-i.auto.filters)) (c.loop-i.invariant low readies t h all)).0
