use Rattle.av_filter.specs.OptionLaws.{one_given, one_first, none_first}
use Rattle.av_filter.proofs.options.arguments_have_one_reading.Goals as goal

pub returns-clause-given : goal.returns-clause-given
returns-clause-given g c = λ args o t u. one_given

pub returns-clause-fault : goal.returns-clause-fault
returns-clause-fault g c = λ args e f. one_first

pub returns-clause-one : goal.returns-clause-one
returns-clause-one g c = λ args e. none_first
