use Rattle.std.proofs.lemmas.Option.{IfSome_then}
use Rattle.av_text.specs.Numbers.{IsRateWord, Spells}
use Rattle.av_text.proofs.NumberLemmas.{word_only, no_word, parts_here, spelled_by}
use Rattle.av_text.proofs.numbers.spelled.Goals as goal

pub returns-in-ntsc-clause-found : goal.returns-in-ntsc-clause-found
returns-in-ntsc-clause-found c = rw c.in-ntsc.is (Spells.Word IsRateWord.ntsc)

pub returns-in-ntsc-clause-only : goal.returns-in-ntsc-clause-only
returns-in-ntsc-clause-only c = λ num den h. let same = word_only IsRateWord.ntsc (rw c.in-ntsc.is at h) in cc

pub returns-in-pal-clause-found : goal.returns-in-pal-clause-found
returns-in-pal-clause-found c = rw c.in-pal.is (Spells.Word IsRateWord.pal)

pub returns-in-pal-clause-only : goal.returns-in-pal-clause-only
returns-in-pal-clause-only c = λ num den h. let same = word_only IsRateWord.pal (rw c.in-pal.is at h) in cc

pub returns-in-film-clause-found : goal.returns-in-film-clause-found
returns-in-film-clause-found c = rw c.in-film.is (Spells.Word IsRateWord.film)

pub returns-in-film-clause-only : goal.returns-in-film-clause-only
returns-in-film-clause-only c = λ num den h. let same = word_only IsRateWord.film (rw c.in-film.is at h) in cc

pub returns-in-ntsc_film-clause-found : goal.returns-in-ntsc_film-clause-found
returns-in-ntsc_film-clause-found c = rw c.in-ntsc_film.is (Spells.Word IsRateWord.ntsc_film)

pub returns-in-ntsc_film-clause-only : goal.returns-in-ntsc_film-clause-only
returns-in-ntsc_film-clause-only c = λ num den h. let same = word_only IsRateWord.ntsc_film (rw c.in-ntsc_film.is at h) in cc

pub returns-in_default-clause-found : goal.returns-in_default-clause-found
returns-in_default-clause-found c =
    IfSome_then c.parts.result c.parts.ensures.found (λ p h. spelled_by c.split_bytes.result.1.now (rw c.as_bytes.ensures.value at c.split_bytes.ensures) h)

pub returns-in_default-clause-only : goal.returns-in_default-clause-only
returns-in_default-clause-only c = λ num den h.
    c.parts.ensures.only num den (parts_here (rw c.as_bytes.ensures.value at c.split_bytes.ensures) (no_word c.in_default.not-ntsc c.in_default.not-pal c.in_default.not-film c.in_default.not-ntsc_film) h)
