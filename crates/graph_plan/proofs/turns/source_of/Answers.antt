use Rattle.std.proofs.Common.{◌<◌, ◌^◌, ◌∙◌, sym, refl, inr, subst, arith, rules}
use Rattle.std.proofs.lemmas.Option.{slice_get_within}
use Rattle.graph_plan.specs.declared.origins.Origin.{Origin}
use Rattle.graph_plan.specs.Joining.{graph_of, IsOriginOf}
use Rattle.graph_plan.proofs.TurnLemmas.{left_unmarked, lowest_left}
use Rattle.graph_plan.proofs.turns.source_of.Goals as goal

pub returns-in_err-file-in-Open : goal.returns-in_err-file-in-Open
returns-in_err-file-in-Open c before is = rw c.from_residual-in_err-file-in-Open.ensures (
    let g = graph_of c.args.parts.now in
    let P : Origin → Type 0 = λ o. IsOriginOf g c.args.inlet.now.taker o in (
      subst P c.in-Open.is c.requires.inlet,
      (c.in_ok-wanted-in-Open.wanted, sym c.kind_of.ensures ∙ c.in_ok-wanted-in-Open.was, λ k left. c.in_err-file-in-Open.ensures.none refl k (left_unmarked g before c.args.taken.now _ is k left)),
    )
    )

pub overflow_cast-result : goal.overflow_cast-result
overflow_cast-result c =
    let low = slice_get_within c.args.parts.now.files.now c.in_ok-file-in-Open.file c.in_ok-wanted-in-Open.wanted c.in_ok-file-in-Open.ensures.left.holds.0 in
    let few = c.requires.small.files in
    let fits : c.in_ok-file-in-Open.file < 2 ^ 32 = omega arith in
    search rules

pub returns-in_ok-file-in-Open : goal.returns-in_ok-file-in-Open
returns-in_ok-file-in-Open c before is =
    let g = graph_of c.args.parts.now in
    let P : Origin → Type 0 = λ o. IsOriginOf g c.args.inlet.now.taker o in
    let opened = subst P c.in-Open.is c.requires.inlet in
    inr (inr (
      c.in_ok-wanted-in-Open.wanted,
      c.in_ok-file-in-Open.file,
      refl,
      opened,
      sym c.kind_of.ensures ∙ c.in_ok-wanted-in-Open.was,
      lowest_left g before c.args.taken.now _ is c.in_ok-file-in-Open.file c.in_ok-file-in-Open.ensures.left,
    ))
