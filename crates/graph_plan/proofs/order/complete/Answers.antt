use Rattle.std.proofs.Common.{◌<◌, true, length, refl, arith}
use Rattle.std.proofs.lemmas.List.{length-set}
use Rattle.std.proofs.lemmas.Option.{slice_get_read}
use Rattle.std.proofs.lemmas.Result.{IfOk-weaker}
use Rattle.graph_plan.proofs.ArrangeLemmas.{completed}
use Rattle.graph_plan.proofs.order.complete.Goals as goal

pub look_at_all-requires-clause-below : goal.look_at_all-requires-clause-below
look_at_all-requires-clause-below c f here =
    let takers = c.args.neighbours.now.takers.items in
    let row = c.index.result.now in
    let within : c.args.filter < length takers = (let each = c.requires.takers.each in let low = c.requires.low in omega arith) in
    let at = slice_get_read takers (length takers) c.args.filter row refl within c.index.ensures in
    let low = c.requires.takers.below c.args.filter f (row, at, rw c.as_slice-takers.ensures.value at here) in
    let same = length-set c.args.progress.now.done.items c.args.filter true in
    omega arith

pub returns-clause-ready : goal.returns-clause-ready
returns-clause-ready c =
    let takers = c.args.neighbours.now.takers.items in
    let row = c.index.result.now in
    let within : c.args.filter < length takers = (let each = c.requires.takers.each in let low = c.requires.low in omega arith) in
    let at = slice_get_read takers (length takers) c.args.filter row refl within c.index.ensures in
    IfOk-weaker c.look_at_all.result _ _
    (λ _ added. completed c.args.neighbours.now.givers.items takers c.args.filter row _ c.look_at_all.new.progress at (rw (c.deref.ensures.value, c.as_slice-takers.ensures.value) at added))
    c.look_at_all.ensures
