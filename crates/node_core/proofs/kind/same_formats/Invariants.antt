use Rattle.std.proofs.Common.{◌≡◌, ◌++◌, map, flat_map, drop}
use Rattle.graph_formats.specs.declared.request.Relation.TheVariants.{Same}
use Rattle.node_core.proofs.kind.same_formats.Given as goal

abbrev pub invariant-ins : goal.invariant-ins
invariant-ins l = l.relations.items ++ flat_map (λ a. map (λ b. Same a b) l.outs) (drop l.a-index l.ins) ≡ flat_map (λ a. map (λ b. Same a b) l.outs) l.ins

abbrev pub invariant-outs : goal.invariant-outs
invariant-outs l = l.relations.items ++ map (λ b. Same l.a b) (drop l.b-index l.outs) ≡ l.initial.relations.items ++ map (λ b. Same l.a b) l.outs
