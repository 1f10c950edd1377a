use Rattle.std.proofs.Common.{◌∙◌, ap}
use Rattle.av_words.specs.WordRoles.{line_of}
use Rattle.av_words.proofs.WordLawLemmas.{same_command, fault_passed}
use Rattle.av_words.proofs.command_words.read_words.Goals as goal

pub returns-clause-says : goal.returns-clause-says
returns-clause-says c command is =
    let e = ap line_of c.as_slice-items.ensures.value ∙ c.in_ok-items.ensures in
    same_command (line_of c.as_slice-items.result.now) c.in_ok-command.command command c.in_ok-command.ensures (rw (← e) at is)

pub returns-in_err-check_items-clause-faulty : goal.returns-in_err-check_items-clause-faulty
returns-in_err-check_items-clause-faulty c fault is =
    let e = ap line_of c.as_slice-items.ensures.value ∙ c.in_ok-items.ensures in
    fault_passed (line_of c.as_slice-items.result.now) c.in_err-check_items.field-0.0 c.from_residual-in_err-check_items.result c.from_residual-in_err-check_items.ensures c.in_err-check_items.ensures.fault fault (rw (← e) at is)

pub returns-in_err-text-clause-faulty : goal.returns-in_err-text-clause-faulty
returns-in_err-text-clause-faulty c fault is =
    let e = ap line_of c.as_slice-items.ensures.value ∙ c.in_ok-items.ensures in
    fault_passed (line_of c.as_slice-items.result.now) c.in_err-text.field-0.0 c.from_residual-in_err-text.result c.from_residual-in_err-text.ensures c.in_err-text.ensures.fault fault (rw (← e) at is)
