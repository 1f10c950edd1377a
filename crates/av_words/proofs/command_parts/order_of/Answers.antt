use Rattle.std.proofs.Common.{refl}
use Rattle.av_words.specs.declared.word_roles.Valued.TheVariants.{Order}
use Rattle.av_words.specs.WordRoles.{line_of}
use Rattle.av_words.proofs.CommandPartLemmas.{takes_value}
use Rattle.av_words.proofs.command_parts.order_of.Goals as goal

pub returns-in-None : goal.returns-in-None
returns-in-None c =
    let at = c.in-Some.ensures in
    absurd (takes_value (line_of c.args.items.now) c.requires at.0 Order c.in-Some.value.now at.1.here (λ h. (rw c.in-None.is at c.in_ok-order.ensures.none) refl h.0 h.1))
