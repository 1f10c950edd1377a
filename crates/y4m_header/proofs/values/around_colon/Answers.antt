use Rattle.std.proofs.Common.{◌+◌, rules, tests, None, sym, ◌∙◌}
use Rattle.std.proofs.lemmas.Iterator.{YieldsList-from_slice}
use Rattle.std.proofs.lemmas.List.{take_rest}
use Rattle.std.proofs.lemmas.Iterator.Search.{position_from_yields_List}
use Rattle.y4m_header.specs.Params.{is_colon}
use Rattle.y4m_header.proofs.ColonLemmas.{around_here, none_here}
use Rattle.y4m_header.proofs.values.around_colon.Goals as goal

pub returns-in_err-colon : goal.returns-in_err-colon
returns-in_err-colon c =
    let e = position_from_yields_List is_colon _ _ None c.in_err-colon.ensures.ran (YieldsList-from_slice c.args.value.now cc) (λ x b q k. search (rules, tests)) in
    rw c.from_residual.ensures (none_here c.args.value.now (sym e))

pub returns : goal.returns
returns c =
    let e = position_from_yields_List is_colon _ _ c.position.result c.position.ensures.ran (YieldsList-from_slice c.args.value.now cc) (λ x b q k. search (rules, tests)) in
    rw (take_rest c.args.value.now (c.in_ok-colon.colon + 1)) (around_here c.args.value.now c.in_ok-colon.colon (sym e ∙ c.in_ok-colon.was))
