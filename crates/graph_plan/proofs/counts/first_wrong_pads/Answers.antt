use Rattle.std.proofs.Common.{ℕ, refl, arith, below_more}
use Rattle.graph_plan.specs.Refusals.{HasWrongPads}
use Rattle.graph_plan.specs.Joining.{graph_of}
use Rattle.graph_plan.proofs.CountLemmas.{wrong_low}
use Rattle.graph_plan.proofs.counts.first_wrong_pads.Goals as goal

pub returns-then-has_wrong_pads-clause-wrong : goal.returns-then-has_wrong_pads-clause-wrong
returns-then-has_wrong_pads-clause-wrong c = record { holds = c.if-has_wrong_pads.ensures.0 refl; none_before = c.filters.invariant }

pub filters-preserved : goal.filters-preserved
filters-preserved c =
    let g = graph_of c.args.parts.now in
    let P : ℕ → Type 0 = λ f. HasWrongPads g f → ⊥ in
    below_more P c.filters.filter c.filters.invariant (λ is. let no = c.if-has_wrong_pads.ensures.1 is in cc)

pub returns-clause-none : goal.returns-clause-none
returns-clause-none c none k is = c.filters.invariant k (let low = wrong_low (graph_of c.args.parts.now) k is in let past = c.filters-test.false in omega arith) is
