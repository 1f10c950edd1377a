use Rattle.y4m_header.proofs.PrefixLemmas.{prefix_found, prefix_none}
use Rattle.y4m_header.proofs.read.after.Goals as goal

pub returns-in-Some-clause-found : goal.returns-in-Some-clause-found
returns-in-Some-clause-found c =
    let now = c.in-Some.ensures.cases in
    prefix_found c.args.text.now c.args.prefix.now c.in-Some.rest.now now.0 now.1

pub returns-in-None-clause-none : goal.returns-in-None-clause-none
returns-in-None-clause-none c = λ none rest. prefix_none c.args.text.now c.args.prefix.now rest c.in-None.ensures.cases
