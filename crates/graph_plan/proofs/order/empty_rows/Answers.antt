use Rattle.std.proofs.Common.{arith}
use Rattle.std.proofs.lemmas.List.{length_push}
use Rattle.graph_plan.proofs.RowLemmas.{no_rows, none_more}
use Rattle.graph_plan.proofs.order.empty_rows.Goals as goal

pub rows-init : goal.rows-init
rows-init c = rw c.new-rows.ensures.items (record { each = omega arith; none = no_rows })

pub rows-preserved : goal.rows-preserved
rows-preserved c = rw c.in_ok-push.ensures.items (record {
  each = (let before = c.rows.invariant.each in omega (arith, before, length_push c.rows.rows.items c.new.result));
  none = none_more c.rows.rows.items c.new.result c.new.ensures.items c.rows.invariant.none;
})

pub returns-clause-each : goal.returns-clause-each
returns-clause-each c = let all = c.rows.invariant.each in let end = c.rows.auto.counter-end in omega arith

pub returns-clause-none : goal.returns-clause-none
returns-clause-none c = c.rows.invariant.none
