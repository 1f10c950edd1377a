use Rattle.std.proofs.Common.{length, refl, arith}
use Rattle.std.proofs.lemmas.List.Sums.{sum_by-take-le}
use Rattle.graph_plan.specs.declared.plan.Pads.{Pads}
use Rattle.graph_plan.proofs.counts.has_too_many.Goals as goal

pub returns-then-total-gt-MOST_LINKS : goal.returns-then-total-gt-MOST_LINKS
returns-then-total-gt-MOST_LINKS c =
    let part = sum_by-take-le (λ (p : Pads). length p.ins) c.args.pads.now c.filters.of_filter-index in
    (λ t. omega (arith, c.filters.invariant, c.if-total-gt-MOST_LINKS.true, part), λ more. refl)
