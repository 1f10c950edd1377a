use Rattle.std.proofs.Common.{◌≡◌, ◌+◌, arith, rules}
use Rattle.std.proofs.lemmas.Option.{slice_get-get_or}
use Rattle.graph_plan.specs.Joining.{graph_of}
use Rattle.graph_plan.proofs.CountLemmas.{lacks_both}
use Rattle.graph_plan.proofs.counts.lacks_input.Goals as goal

pub returns-then-first-second : goal.returns-then-first-second
returns-then-first-second c =
    let p = c.args.parts.now in
    let up : c.args.filter ≡ c.in-Some.before + 1 = search rules in
    let both = lacks_both (graph_of p) c.in-Some.before c.args.filter _ _ _ _ up
    (slice_get-get_or p.calls.now c.in-Some.before c.index-parts-before.result (let low = c.requires.there in omega arith))
    (slice_get-get_or p.calls.now c.args.filter c.index-parts-filter.result c.requires.there)
    (slice_get-get_or p.pads.now c.in-Some.before c.index-parts-before-2.result (let low = c.requires.there in let same = c.requires.each in omega arith))
    (slice_get-get_or p.pads.now c.args.filter c.index-parts-filter-then-first-second.result (let low = c.requires.there in let same = c.requires.each in omega arith)) in
    (λ t. both.0 c.if-first-second.true (search rules), λ is. (let why = (both.1 is).1 in search rules))

pub returns-else-first-second : goal.returns-else-first-second
returns-else-first-second c =
    let p = c.args.parts.now in
    let up : c.args.filter ≡ c.in-Some.before + 1 = search rules in
    let there = c.requires.there in
    let same = c.requires.each in
    let both = lacks_both (graph_of p) c.in-Some.before c.args.filter _ _ _ _ up
    (slice_get-get_or p.calls.now c.in-Some.before c.index-parts-before.result (omega arith))
    (slice_get-get_or p.calls.now c.args.filter c.index-parts-filter.result there)
    (slice_get-get_or p.pads.now c.in-Some.before c.index-parts-before-2.result (omega arith))
    (slice_get-get_or p.pads.now c.args.filter c.index-parts-before-2.result (omega arith)) in
    (λ t. absurd (search rules), λ is. (let why = (both.1 is).0 in search rules))
