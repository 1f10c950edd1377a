use Rattle.std.proofs.Common.{◌∙◌, IsTrue, ◌↔◌, ap, sym, subst}
use Rattle.av_words.specs.declared.word_roles.Role.{Role}
use Rattle.av_words.specs.declared.word_roles.Role.TheVariants.{Value}
use Rattle.av_words.specs.WordValues.{SaysMade}
use Rattle.av_words.specs.WordFaults.{IsBadNumber}
use Rattle.av_words.proofs.WordCheckLemmas.{not_taken}
use Rattle.av_words.proofs.word_checks.is_bad_number.Goals as goal

pub returns-in_ok-read_made-in-Value-Generator : goal.returns-in_ok-read_made-in-Value-Generator
returns-in_ok-read_made-in-Value-Generator c =
    let word = c.args.item.word.now in
    let r = c.is_none-in-Value-Generator.result in
    let P : Role → Type 0 = λ role. IsTrue r ↔ IsBadNumber role word in
    subst P (sym (c.in-Value-Generator.is ∙ ap Value (rw c.in-Value-Generator.is at c.in-Value-Generator.field-0-is)))
    (not_taken c.in_ok-read_made-in-Value-Generator.field-0 (SaysMade word) r c.is_none-in-Value-Generator.ensures c.in_ok-read_made-in-Value-Generator.ensures.made c.in_ok-read_made-in-Value-Generator.ensures.none)
