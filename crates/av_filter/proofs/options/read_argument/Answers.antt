use Rattle.std.proofs.Common.{rules, inr}
use Rattle.av_filter.proofs.OptionLemmas.{no_option, not_taken}
use Rattle.av_filter.proofs.options.read_argument.Goals as goal

pub returns-in_err-option-clause-refused : goal.returns-in_err-option-clause-refused
returns-in_err-option-clause-refused g c = λ args is late.
    let o = g.O.Options.rules in
    let fault = no_option o.count o.names o.takes args c.args.place c.args.arg.now c.args.is_late c.in_err-option.field-0.0 c.in_err-option.ensures.err is late in
    search rules

pub returns-else-branch-clause-refused : goal.returns-else-branch-clause-refused
returns-else-branch-clause-refused g c = λ args is late.
    let o = g.O.Options.rules in
    inr (not_taken o.count o.names o.takes args c.args.place c.in_ok-option.option c.args.arg.now c.args.is_late c.in_ok-option.ensures.ok
    (λ h. let taken = c.in_ok-set.ensures.takes.1 (rw c.as_str.ensures h) in cc) is late)
