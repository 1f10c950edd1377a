use Rattle.std.proofs.lemmas.Option.{IfSome_then, none-some, some_pair_parts}
use Rattle.av_text.proofs.NumberLemmas.{some_below, reduced_only}
use Rattle.av_text.proofs.numbers.read_ratio.Goals as goal

pub returns-in_err-num-clause-only : goal.returns-in_err-num-clause-only
returns-in_err-num-clause-only c = λ r h. absurd (none-some (h.0, h.1) (c.in_err-num.ensures.only h.0 h.1 h.2))

pub reduce-requires : goal.reduce-requires
reduce-requires c = some_below c.in_ok-num.ensures.found

pub returns-clause-ratio : goal.returns-clause-ratio
returns-clause-ratio c = IfSome_then c.reduce.result c.reduce.ensures.ratio (λ r h. (c.in_ok-num.num, c.in_ok-num.den, c.in_ok-num.ensures.found, h))

pub returns-clause-only : goal.returns-clause-only
returns-clause-only c = λ r h.
    let same = some_pair_parts c.in_ok-num.num h.0 c.in_ok-num.den h.1 (c.in_ok-num.ensures.only h.0 h.1 h.2) in
    reduced_only c.reduce.result (some_below c.in_ok-num.ensures.found) c.reduce.ensures.ratio c.reduce.ensures.none (rw (← same.0, ← same.1) at h.3)
