use Rattle.std.proofs.Common.{take, filter}
use Rattle.std.specs.List.{AllZip}
use Rattle.av_words.specs.WordRoles.{line_of}
use Rattle.av_words.specs.WordFaults.{is_input}
use Rattle.av_words.specs.CommandWords.{SaysInput}
use Rattle.av_words.proofs.command_parts.list_inputs.Given as goal

abbrev pub invariant-items : goal.invariant-items
invariant-items l = AllZip SaysInput (filter is_input (take l.item-index (line_of l.items))) l.inputs.items
