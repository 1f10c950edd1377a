use Rattle.std.proofs.Common.{◌≡◌, ◌++◌, flat_map, drop}
use Rattle.std.specs.List.{enumerate_from}
use Rattle.plan_formats.specs.Wished.{end_wishes}
use Rattle.plan_formats.proofs.choice.file_wishes.Given as goal

abbrev pub invariant-links : goal.invariant-links
invariant-links l = l.wishes.items ++ flat_map (end_wishes l.inputs l.outputs) (enumerate_from l.number (drop l.number l.links)) ≡ flat_map (end_wishes l.inputs l.outputs) (enumerate_from 0 l.links)
