use Rattle.std.proofs.Common.{◌≡◌, ◌++◌, map, string_bytes, drop}
use Rattle.av_words.specs.WordRoles.{said, said_after, line_of}
use Rattle.av_words.proofs.word_roles.read_items.Given as goal

abbrev pub invariant-words : goal.invariant-words
invariant-words l = said (map string_bytes l.words) ≡ line_of l.items.items ++ said_after l.taker (drop l.word-index (map string_bytes l.words))
