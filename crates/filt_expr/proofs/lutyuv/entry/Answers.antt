use Rattle.std.proofs.Common.{rules}
use Rattle.std.specs.Int.{w128}
use Rattle.std.proofs.lemmas.Int.{to_z-of_z}
use Rattle.filt_expr.proofs.LutyuvLemmas.{entry_is}
use Rattle.filt_expr.proofs.lutyuv.entry.Goals as goal

pub returns-in_err-value-clause-err : goal.returns-in_err-value-clause-err
returns-in_err-value-clause-err c = let fault = c.in_err-value.ensures.err _ c.sample_values.ensures in search rules

pub returns-clause-ok : goal.returns-clause-ok
returns-clause-ok c =
    let cut = to_z-of_z w128 c.cut.result (search rules) in
    let low = to_z-of_z w128 c.clamp.result (search rules) in
    rw low (entry_is _ _ _ _ _ (c.in_ok-value.ensures.ok _ c.sample_values.ensures) c.cut.ensures (rw cut at c.clamp.ensures.value))
