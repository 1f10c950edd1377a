use Rattle.std.proofs.Common.{length, sym, lit<}
use Rattle.std.proofs.lemmas.Bool.{eqb-true}
use Rattle.av_text.proofs.Places.{some_from_test}
use Rattle.graph_text.proofs.LabelLemmas.{mark_front, no_opening, no_characters, no_closing}
use Rattle.graph_text.proofs.labels.split_label.Goals as goal

pub returns-in_err-strip_prefix-clause-none : goal.returns-in_err-strip_prefix-clause-none
returns-in_err-strip_prefix-clause-none c = λ none. no_opening c.in_err-strip_prefix.ensures.cases

pub returns-then-is_empty-clause-none : goal.returns-then-is_empty-clause-none
returns-then-is_empty-clause-none c = λ none.
    no_characters (mark_front 91 c.args.text.now c.in_ok-strip_prefix.field-0.now (lit< tt) c.in_ok-strip_prefix.ensures.cases) c.split_run.ensures.run c.split_run-2.ensures.run (eqb-true (length c.split_run-2.result.0.now) 0 (sym c.if-is_empty.ensures))

pub returns-in-Some-clause-label : goal.returns-in-Some-clause-label
returns-in-Some-clause-label c = record {
  inside = c.in_ok-strip_prefix.field-0.now;
  named = c.split_run.result.1.now;
  behind = c.split_run-2.result.1.now;
  opens = mark_front 91 c.args.text.now c.in_ok-strip_prefix.field-0.now (lit< tt) c.in_ok-strip_prefix.ensures.cases;
  before = (c.split_run.result.0.now, c.split_run.ensures.run);
  is_name = c.split_run-2.ensures.run;
  some = some_from_test (length c.split_run-2.result.0.now) c.if-is_empty.ensures;
  closes = (c.split_run-3.result.0.now, rw (mark_front 93 c.split_run-3.result.1.now c.in-Some.rest.now (lit< tt) c.in-Some.ensures.cases) at c.split_run-3.ensures.run);
}

pub returns-in-None-clause-none : goal.returns-in-None-clause-none
returns-in-None-clause-none c = λ none.
    no_closing (mark_front 91 c.args.text.now c.in_ok-strip_prefix.field-0.now (lit< tt) c.in_ok-strip_prefix.ensures.cases) c.split_run.ensures.run c.split_run-2.ensures.run c.split_run-3.ensures.run c.in-None.ensures.cases
