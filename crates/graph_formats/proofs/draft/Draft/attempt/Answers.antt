use Rattle.std.proofs.Common.{ap, Ok}
use Rattle.graph_formats.proofs.PartLemmas.{settled_more, settled_again}
use Rattle.graph_formats.proofs.draft.Draft.attempt.Goals as goal

pub returns-then-not-fits-clause-settled : goal.returns-then-not-fits-clause-settled
returns-then-not-fits-clause-settled g c = settled_again g.tour.asked g.tour.start c.forget.new.self c.requires.1.0 c.forget.ensures

pub returns-else-not-fits-clause-settled : goal.returns-else-not-fits-clause-settled
returns-else-not-fits-clause-settled g c =
    settled_more g.tour c.walk.new.self c.requires.1.0 c.in_ok-fits.ensures.walk (c.in_ok-fits.ensures.walked (ap Ok c.if-not-fits.false)) c.requires.1.1.1.1.1.0 c.requires.1.1.1.1.1.1
