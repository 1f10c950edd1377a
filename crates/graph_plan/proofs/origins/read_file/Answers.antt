use Rattle.graph_plan.proofs.OriginLemmas.{says_parts}
use Rattle.graph_plan.proofs.origins.read_file.Goals as goal

pub returns-in_err-file-clause-only : goal.returns-in_err-file-clause-only
returns-in_err-file-clause-only c file said says =
    let parts = says_parts c.args.name.now _ _ c.split_run.ensures.run file said says in
    absurd (let none = c.in_err-file.ensures.only file parts.0 in cc)

pub returns-in_err-said-clause-only : goal.returns-in_err-said-clause-only
returns-in_err-said-clause-only c file said says =
    let parts = says_parts c.args.name.now _ _ c.split_run.ensures.run file said says in
    absurd (let none = c.in_err-said.ensures.only said parts.1 in cc)

pub returns-clause-only : goal.returns-clause-only
returns-clause-only c file said says =
    let parts = says_parts c.args.name.now _ _ c.split_run.ensures.run file said says in
    let one = c.in_ok-file.ensures.only file parts.0 in
    let other = c.in_ok-said.ensures.only said parts.1 in
    cc
