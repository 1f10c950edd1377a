use Rattle.std.proofs.Common.{ap, arith}
use Rattle.std.proofs.lemmas.Option.{same_Some}
use Rattle.graph_plan.proofs.origins.named_file.Goals as goal

pub returns-in_err-file : goal.returns-in_err-file
returns-in_err-file c = rw c.from_residual.ensures (λ file said says. absurd (let some = c.in_err-file.ensures.only file said says in cc))

pub returns-else-file-parts : goal.returns-else-file-parts
returns-else-file-parts c file said says low =
    let same = same_Some _ _ (c.in_ok-file.ensures.only file said says) in
    let files = ap (λ p. p.0) same in
    omega (arith, c.if-file-parts.false)
