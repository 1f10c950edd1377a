use Rattle.avgraph.proofs.AnswerLaws.{commands_have_one_answer}
use Rattle.avgraph.proofs.law.commands_have_one_answer.Goals as goal

pub returns : goal.returns
returns c = commands_have_one_answer
