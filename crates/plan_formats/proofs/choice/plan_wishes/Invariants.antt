use Rattle.std.proofs.Common.{◌≡◌, ◌++◌, flat_map, drop}
use Rattle.std.specs.List.{enumerate_from}
use Rattle.plan_formats.specs.Wished.{filter_wishes, plan_wishes, plan_relations}
use Rattle.plan_formats.proofs.choice.plan_wishes.Given as goal

abbrev pub invariant-kinds : goal.invariant-kinds
invariant-kinds l = record {
  wishes : l.wishes.items ++ flat_map (λ p. (filter_wishes l.links p).wishes) (enumerate_from l.filter (drop l.filter l.kinds)) ≡ plan_wishes l.links l.kinds l.inputs l.outputs;
  relations : l.relations.items ++ flat_map (λ p. (filter_wishes l.links p).relations) (enumerate_from l.filter (drop l.filter l.kinds)) ≡ plan_relations l.links l.kinds;
}
