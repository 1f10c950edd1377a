use Rattle.avgraph.specs.Bounds.{greatest_input}
use Rattle.avgraph.proofs.HeadlineLemmas as headline
use Rattle.avgraph.proofs.top.avgraph.Goals as goal

pub returns-clause-refused : goal.returns-clause-refused
returns-clause-refused g c = let a = c.act.ensures in headline.refused greatest_input _ a.outcome _ a.between _ _ a.obeys a.reports

pub returns-clause-stands : goal.returns-clause-stands
returns-clause-stands g c = let a = c.act.ensures in headline.stands greatest_input _ a.outcome _ a.between _ _ a.obeys a.reports

pub returns-clause-names : goal.returns-clause-names
returns-clause-names g c = let a = c.act.ensures in headline.names greatest_input _ a.outcome _ a.between _ _ a.obeys a.reports

pub returns-clause-limits : goal.returns-clause-limits
returns-clause-limits g c = let a = c.act.ensures in headline.limits greatest_input _ a.outcome _ a.between _ _ a.obeys a.reports

pub returns-clause-done : goal.returns-clause-done
returns-clause-done g c = let a = c.act.ensures in headline.done greatest_input _ a.outcome _ a.between _ _ a.obeys a.reports

pub returns-clause-complete : goal.returns-clause-complete
returns-clause-complete g c = let a = c.act.ensures in headline.concludes greatest_input _ a.outcome _ a.between _ _ a.obeys a.reports

pub returns-clause-cause : goal.returns-clause-cause
returns-clause-cause g c = let a = c.act.ensures in headline.has_cause greatest_input _ a.outcome _ a.between _ _ a.obeys a.reports

pub returns-clause-kept : goal.returns-clause-kept
returns-clause-kept g c = let a = c.act.ensures in headline.keeps greatest_input _ a.outcome _ a.between _ _ a.obeys a.reports

pub returns-clause-said : goal.returns-clause-said
returns-clause-said g c = let a = c.act.ensures in headline.says_status greatest_input _ a.outcome _ a.between _ _ a.obeys a.reports
