use Rattle.std.proofs.Common.{arith, take, get_or}
use Rattle.std.proofs.lemmas.List.{take_more}
use Rattle.std.proofs.lemmas.List.Elements.{Contains-get_or}
use Rattle.graph_formats.specs.declared.request.Relation.{Relation}
use Rattle.graph_formats.proofs.DemandLemmas.{no_relation, lists_none, only_none, tied_more}
use Rattle.graph_formats.proofs.ties.Ties.new.Goals as goal

pub relations-init : goal.relations-init
relations-init c = lists_none c.args.links _ (c.in_ok-heads.ensures.items_if_clones_equal (only_none _ (λ x is. is))) c.new-ties.ensures.items

pub relations-preserved : goal.relations-preserved
relations-preserved c =
    let relation : Relation = get_or c.args.relations.now c.relations.relation-index no_relation in
    let low = c.requires relation (Contains-get_or c.args.relations.now c.relations.relation-index no_relation (omega arith)) in
    rw (take_more c.args.relations.now c.relations.relation-index no_relation (omega arith))
    (tied_more c.args.links (take c.relations.relation-index c.args.relations.now) relation c.relations.all c.add.new.self low.0 low.1 c.relations.invariant c.in_ok-add.ensures)
