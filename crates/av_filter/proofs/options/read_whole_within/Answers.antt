use Rattle.av_filter.proofs.options.read_whole_within.Goals as goal

pub returns-in_default-clause-only : goal.returns-in_default-clause-only
returns-in_default-clause-only c = λ z h. let read = c.in_default.ensures.only z h.whole in let is = c.in_default.is in cc
