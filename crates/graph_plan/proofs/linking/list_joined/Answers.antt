use Rattle.std.proofs.Common.{◌+◌, ◌++◌, ◌↔◌, ◌∷◌, [], ℕ, List, take, sym, ◌∙◌, ap, subst}
use Rattle.std.proofs.lemmas.List.{take_all}
use Rattle.graph_plan.specs.declared.plan.Edge.{Edge}
use Rattle.graph_plan.specs.Orders.{Feeds}
use Rattle.graph_plan.specs.Joining.{IsJoinedBy}
use Rattle.graph_plan.proofs.JoinLemmas.{joined_same, joined_more}
use Rattle.graph_plan.proofs.linking.list_joined.Goals.{in-Some+in_ok-push, in_default}
use Rattle.graph_plan.proofs.ScanLemmas.{no_inlet}
use Rattle.graph_plan.proofs.linking.list_joined.Goals as goal

pub inlets-preserved : goal.inlets-preserved
inlets-preserved c =
    let inlets = c.args.inlets.now in
    let index = c.inlets.inlet-index in
    let P : List Edge → Type 0 = λ es. (giver taker : ℕ) → Feeds es giver taker ↔ IsJoinedBy (take (index + 1) inlets) giver taker in
    elim c.match-joined_edge.branch [
      | in-Some+in_ok-push w ↦ (
          let joins = w.in-Some.ensures in
          let more = joined_more c.inlets.edges.items inlets index no_inlet joins.0 c.inlets-test.true joins.1 c.inlets.invariant in
          let items = ap (λ v. v.items) w.edges-is ∙ (w.in_ok-push.ensures.items ∙ ap (λ (e : Edge). c.inlets.edges.items ++ e ∷ []) joins.2) in
          subst P (sym items) more
          )
      | in_default w ↦ subst P (sym (ap (λ v. v.items) w.edges-is)) (joined_same c.inlets.edges.items inlets index no_inlet c.inlets-test.true w.in_default.ensures c.inlets.invariant)
    ]

pub returns : goal.returns
returns c = rw (take_all c.inlets.inlet-index c.args.inlets.now c.inlets-test.false) at c.inlets.invariant
