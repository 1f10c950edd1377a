use Rattle.std.proofs.Common.{◌≡◌, ◌-◌, ◌++◌, flat_map, drop}
use Rattle.std.specs.List.{range_with_len}
use Rattle.plan_formats.specs.Wished.{is_target, links_where}
use Rattle.plan_formats.proofs.PadLemmas.{numbers_from}
use Rattle.plan_formats.proofs.pads.links_to.Given as goal

abbrev pub invariant-pads : goal.invariant-pads
invariant-pads l = l.numbers.items ++ flat_map (λ pad. links_where (λ link. is_target l.filter pad link.to) l.links) (range_with_len l.pad (l.pads - l.pad))
    ≡ flat_map (λ pad. links_where (λ link. is_target l.filter pad link.to) l.links) (range_with_len 0 l.pads)

abbrev pub invariant-links : goal.invariant-links
invariant-links l = l.numbers.items ++ numbers_from (λ link. is_target l.filter l.pad link.to) l.number (drop l.number l.links)
    ≡ l.initial.numbers.items ++ links_where (λ link. is_target l.filter l.pad link.to) l.links
