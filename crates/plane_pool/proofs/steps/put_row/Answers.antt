use Rattle.std.proofs.Common.{◌+◌, get_or, sym, ap, subst, ◌∙◌}
use Rattle.plane_pool.specs.declared.view.View.{View}
use Rattle.plane_pool.specs.Told.{written_at}
use Rattle.plane_pool.specs.Asked.{MayPut}
use Rattle.plane_pool.specs.Owners.{Mine}
use Rattle.plane_pool.proofs.Rows.{row_may, row_step}
use Rattle.plane_pool.proofs.steps.put_row.Goals as goal

pub put-requires-clause-may : goal.put-requires-clause-may
put-requires-clause-may c = let v : View = c.args.seat.now.me.0 in let row = c.args.row.now in let at = c.args.at in let i = c.loop-i.i in
    subst (λ (m : Mine). MayPut m.0 (at + i)) (sym c.loop-i.invariant.2) (row_may v at row i c.requires.may c.loop-i-test.true)

pub loop-i-preserved : goal.loop-i-preserved
loop-i-preserved c = let me : Mine = c.args.seat.now.me in let row = c.args.row.now in let at = c.args.at in let i = c.loop-i.i in let inv = c.loop-i.invariant in
    (c.put.ensures.seat.0 ∙ inv.0, c.put.ensures.seat.1 ∙ inv.1, c.put.ensures.view ∙ (ap (λ (m : Mine). (written_at m.0 (at + i) (get_or row i 0), m.1)) inv.2 ∙ ap (λ (v : View). (v, me.1)) (row_step me.0 at row i c.requires.may c.loop-i-test.true)))
