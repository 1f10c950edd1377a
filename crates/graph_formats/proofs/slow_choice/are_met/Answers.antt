use Rattle.std.proofs.Common.{arith, take, get_or, refl, subst, inl, inr}
use Rattle.std.proofs.lemmas.List.{take_more, take_all}
use Rattle.std.proofs.lemmas.List.Elements.{Contains-push_cases}
use Rattle.graph_formats.specs.declared.request.Relation.{Relation}
use Rattle.graph_formats.specs.Assignments.{Meets}
use Rattle.graph_formats.proofs.DemandLemmas.{no_relation}
use Rattle.graph_formats.proofs.slow_choice.are_met.Goals as goal

pub relations-preserved : goal.relations-preserved
relations-preserved c relation here =
    let last : Relation = get_or c.args.relations.now c.relations.relation-index no_relation in
    elim (Contains-push_cases (take c.relations.relation-index c.args.relations.now) last relation (rw (take_more c.args.relations.now c.relations.relation-index no_relation (omega arith)) at here)) [
      | inl old ↦ c.relations.invariant relation old
      | inr same ↦ subst (λ (r : Relation). Meets r c.args.formats.now) same (c.is_met.ensures.0 c.if-not-is_met.false)
    ]

pub returns : goal.returns
returns c = (λ yes relation here. c.relations.invariant relation (rw (take_all c.relations.relation-index c.args.relations.now (omega arith)) here), λ all. refl)
