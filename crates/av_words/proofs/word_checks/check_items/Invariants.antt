use Rattle.std.proofs.Common.{ℕ, ◌<◌, take}
use Rattle.av_words.specs.WordRoles.{line_of}
use Rattle.av_words.specs.WordChecks.{HasRead, HasNoneAt}
use Rattle.av_words.proofs.word_checks.check_items.Given as goal

abbrev pub invariant-items : goal.invariant-items
invariant-items l = record {
  read : HasRead (take l.number (line_of l.items)) l.seen;
  clean : (k : ℕ) → k < l.number → HasNoneAt (line_of l.items) k;
}
