use Rattle.std.proofs.Common.{subst, inl, inr}
use Rattle.graph_plan.specs.declared.origins.Origin.{Origin}
use Rattle.graph_plan.specs.Joining.{graph_of, IsOriginOf}
use Rattle.graph_plan.proofs.OriginLemmas.{pad_differs, file_differs, open_agrees}
use Rattle.graph_plan.proofs.origins.is_mismatched.Goals as goal

pub returns-in-Pad : goal.returns-in-Pad
returns-in-Pad c =
    let g = graph_of c.args.parts.now in
    let taker = c.args.inlet.now.taker in
    let P : Origin → Type 0 = λ o. IsOriginOf g taker o in
    let both = pad_differs g c.requires.fit.labels taker c.in-Pad.giver (subst P c.in-Pad.is c.requires.inlet) in
    let differs = rw (c.kind_of.ensures, c.kind_of-takes.ensures) at c.differ.ensures in
    (λ t. both.0 (differs.0 t), λ is. differs.1 (both.1 is))

pub returns-then-differ : goal.returns-then-differ
returns-then-differ c =
    let g = graph_of c.args.parts.now in
    let taker = c.args.inlet.now.taker in
    let P : Origin → Type 0 = λ o. IsOriginOf g taker o in
    let both = file_differs g c.requires.fit.labels taker c.in-File.file c.in-File.said (subst P c.in-File.is c.requires.inlet) in
    let differs = rw (c.kind_of-takes.ensures, c.kind_of_file-gives.ensures) at c.differ-in-File.ensures in
    (λ t. both.0 (inl (differs.0 t)), λ is. c.if-differ.true)

pub returns-else-differ : goal.returns-else-differ
returns-else-differ c =
    let g = graph_of c.args.parts.now in
    let taker = c.args.inlet.now.taker in
    let P : Origin → Type 0 = λ o. IsOriginOf g taker o in
    let both = file_differs g c.requires.fit.labels taker c.in-File.file c.in-File.said (subst P c.in-File.is c.requires.inlet) in
    let first = rw (c.kind_of-takes.ensures, c.kind_of_file-gives.ensures) at c.differ-in-File.ensures in
    let differs = rw c.kind_of_file-gives.ensures at c.differ-else-differ.ensures in
    let no = c.if-differ.false in
    (λ t. both.0 (inr (differs.0 t)), λ is. elim (both.1 is) [ inl one ↦ absurd (let found = first.1 one in cc) | inr other ↦ differs.1 other ])

pub returns-in-Open : goal.returns-in-Open
returns-in-Open c =
    let g = graph_of c.args.parts.now in
    let taker = c.args.inlet.now.taker in
    let P : Origin → Type 0 = λ o. IsOriginOf g taker o in
    (λ t. absurd (cc), λ is. absurd (open_agrees g c.requires.fit.labels taker (subst P c.in-Open.is c.requires.inlet) is))
