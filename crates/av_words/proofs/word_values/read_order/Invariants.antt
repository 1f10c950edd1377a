use Rattle.std.proofs.Common.{take, map}
use Rattle.std.specs.List.{AllZip}
use Rattle.av_text.specs.Numbers.{IsNumber}
use Rattle.av_words.proofs.word_values.read_order.Given as goal

abbrev pub invariant-pieces : goal.invariant-pieces
invariant-pieces l = AllZip (IsNumber 1 4) (map (λ p. p.now) (take l.piece-index l.piece-items)) l.numbers.items
