use Rattle.std.proofs.Common.{inl, inr, arith}
use Rattle.av_text.proofs.NumberLemmas.{first_and_rest}
use Rattle.av_text.proofs.numbers.parts.Goals as goal

pub returns-in-46-clause-only : goal.returns-in-46-clause-only
returns-in-46-clause-only c = λ num den h.
    let e = first_and_rest c.args.tail.now 46 c.in-46.len_at_least (omega arith) in
    elim (rw e at h) [ inl p ↦ elim p.0 [ inl m ↦ absurd (omega arith) | inr m ↦ absurd (omega arith) ] | inr d ↦ c.decimal.ensures.only num den d.1 ]
