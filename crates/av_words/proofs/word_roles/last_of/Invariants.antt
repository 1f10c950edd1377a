use Rattle.std.proofs.Common.{take}
use Rattle.av_words.specs.WordRoles.{line_of}
use Rattle.av_words.specs.WordChecks.{IsLastOf}
use Rattle.av_words.proofs.word_roles.last_of.Given as goal

abbrev pub invariant-items : goal.invariant-items
invariant-items l = IsLastOf (take l.number (line_of l.items)) l.role l.last
