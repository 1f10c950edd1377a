use Rattle.av_words.proofs.WordLawLemmas.{words_say_one_thing}
use Rattle.av_words.proofs.law.words_say_one_thing.Goals as goal

pub returns : goal.returns
returns c = words_say_one_thing
