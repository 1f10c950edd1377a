use Rattle.std.proofs.Common.{refl}
use Rattle.y4m_header.proofs.FrontLemmas.{begun_none, media_fault, rest_none, rest_fault}
use Rattle.y4m_header.proofs.front.front_fault.Goals as goal

pub returns-in-Some-after-clause-none : goal.returns-in-Some-after-clause-none
returns-in-Some-after-clause-none c = λ _. begun_none c.args.front.now c.in-Some-after.field-0.now c.in-Some-after.ensures.found

pub returns-in-None-clause-some : goal.returns-in-None-clause-some
returns-in-None-clause-some c = media_fault c.args.front.now (c.in_default.ensures.none refl) (c.in-None.ensures.none refl)

pub returns-then-rest_goes_on-clause-none : goal.returns-then-rest_goes_on-clause-none
returns-then-rest_goes_on-clause-none c = λ _. rest_none c.in-Some.ensures.found c.if-rest_goes_on.ensures

pub returns-clause-some : goal.returns-clause-some
returns-clause-some c = rest_fault c.in-Some.ensures.found c.if-rest_goes_on.ensures
