use Rattle.std.proofs.Common.{refl}
use Rattle.av_words.proofs.command_parts.count_of.Goals as goal

pub returns-in-None : goal.returns-in-None
returns-in-None c =
    let at = c.in-Some.ensures in
    absurd (c.requires c.in-Some.value.now (at.0, at.1.here) (c.in-None.ensures.none refl))
