use Rattle.std.proofs.Common.{◌∙◌, ap}
use Rattle.av_words.specs.declared.word_roles.Role.TheVariants.{Value}
use Rattle.av_words.proofs.CommandPartLemmas.{made_input}
use Rattle.av_words.proofs.command_parts.input_of.Goals as goal

pub returns-in_ok-read_made-in-Value-Generator : goal.returns-in_ok-read_made-in-Value-Generator
returns-in_ok-read_made-in-Value-Generator c =
    made_input c.args.item.role c.args.item.word.now c.in_ok-read_made-in-Value-Generator.field-0
    (c.in-Value-Generator.is ∙ ap Value (rw c.in-Value-Generator.is at c.in-Value-Generator.field-0-is))
    c.in_ok-read_made-in-Value-Generator.ensures.made c.in_ok-read_made-in-Value-Generator.ensures.none c.requires.number
