use Rattle.std.proofs.Common.{◌≡◌, None, take}
use Rattle.std.specs.List.{AllZip}
use Rattle.av_words.specs.WordRoles.{line_of}
use Rattle.av_words.specs.WordFaults.{waiting}
use Rattle.av_words.specs.CommandWords.{outputs_after, SaysOutput}
use Rattle.av_words.specs.WordChecks.{HasLabel, plain}
use Rattle.av_words.proofs.command_parts.list_outputs.Given as goal

abbrev pub invariant-items : goal.invariant-items
invariant-items l = record {
  outputs : AllZip SaysOutput (outputs_after None (take l.item-index (line_of l.items))) l.outputs.items;
  map : plain l.map ≡ waiting None (take l.item-index (line_of l.items));
  label : HasLabel (plain l.map);
}
