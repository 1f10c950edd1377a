use Rattle.std.proofs.Common.{refl}
use Rattle.y4m_header.specs.Said.{Other, Disorder}
use Rattle.y4m_header.proofs.MeansLemmas.{means_shape, ordered_pictured, means_unnamed, means_uncoloured}
use Rattle.y4m_header.proofs.read.read_header.Goals as goal

pub returns-in_default-clause-means : goal.returns-in_default-clause-means
returns-in_default-clause-means c = Other (c.in_default.ensures.none refl)

pub returns-in_default-ordered-clause-means : goal.returns-in_default-ordered-clause-means
returns-in_default-ordered-clause-means c = Disorder c.in-Some.rest.now c.in-Some.ensures.found (c.in_default-ordered.ensures.none refl)

pub returns-in-Some-colour-clause-means : goal.returns-in-Some-colour-clause-means
returns-in-Some-colour-clause-means c = means_shape c.in-Some.ensures.found c.in-Some-ordered.ensures.some c.if-latest.true c.shape_of.ensures

pub returns-in-Some-colour-clause-pictured : goal.returns-in-Some-colour-clause-pictured
returns-in-Some-colour-clause-pictured c = ordered_pictured c.in-Some-ordered.ensures.some c.shape_of.ensures

pub returns-in_default-colour-clause-means : goal.returns-in_default-colour-clause-means
returns-in_default-colour-clause-means c = means_unnamed c.in-Some.ensures.found c.in-Some-ordered.ensures.some c.if-latest.false

pub returns-in_default-colour-2-clause-means : goal.returns-in_default-colour-2-clause-means
returns-in_default-colour-2-clause-means c = means_uncoloured c.in-Some.ensures.found c.in-Some-ordered.ensures.some c.in_default-colour.is
