use Rattle.std.proofs.Common.{length, eqb-true, sym}
use Rattle.av_text.proofs.ArgLemmas.{no_name, no_mark}
use Rattle.av_text.proofs.arguments.split_name.Goals as goal

pub returns-then-is_empty-clause-none : goal.returns-then-is_empty-clause-none
returns-then-is_empty-clause-none c = λ none. no_name c.split_run.ensures.run c.split_run-2.ensures.run (eqb-true (length c.split_run-2.result.0.now) 0 (sym c.if-is_empty.ensures))

pub returns-in-None-clause-none : goal.returns-in-None-clause-none
returns-in-None-clause-none c = λ none. no_mark c.split_run.ensures.run c.split_run-2.ensures.run c.split_run-3.ensures.run c.in-None.ensures.cases
