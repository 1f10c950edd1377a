use Rattle.std.proofs.Common.{◌≡◌, ◌≤◌, take, filter, length}
use Rattle.av_words.specs.WordRoles.{line_of}
use Rattle.av_words.specs.WordFaults.{is_output}
use Rattle.av_words.proofs.line_checks.count_outputs.Given as goal

abbrev pub invariant-items : goal.invariant-items
invariant-items l = record { counted : l.count ≡ length (filter is_output (take l.item-index (line_of l.items))); few : l.count ≤ l.item-index }
