use Rattle.std.proofs.Common.{rules}
use Rattle.std.specs.Int.{w128}
use Rattle.std.proofs.lemmas.Int.{to_z-of_z}
use Rattle.filt_expr.proofs.geometry.rounded.Goals as goal

pub returns-in_err-value-clause-err : goal.returns-in_err-value-clause-err
returns-in_err-value-clause-err c = λ f same. let fault = c.in_err-value.ensures.err f same in search rules

pub returns-clause-ok : goal.returns-clause-ok
returns-clause-ok c = λ f same.
    let near = to_z-of_z w128 c.nearest.result (search rules) in
    let z = to_z-of_z w128 c.floor_to.result (search rules) in
    rw z (record { value = c.in_ok-value.value; worth = c.in_ok-value.ensures.ok f same; near = c.nearest.result; nearest = c.nearest.ensures; z_is = rw near at c.floor_to.ensures })
