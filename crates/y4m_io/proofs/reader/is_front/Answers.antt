use Rattle.std.proofs.Common.{inl, inr}
use Rattle.std.proofs.lemmas.Bool.Decides.{Decides-eqb}
use Rattle.std.proofs.lemmas.Slice.Eq.{starts_is}
use Rattle.y4m_io.specs.FrameTexts.{frame_mark}
use Rattle.y4m_io.specs.Pieces.{spaced_mark}
use Rattle.y4m_io.proofs.MarkLemmas.{no_front}
use Rattle.y4m_io.proofs.reader.is_front.Goals as goal

pub returns-then-starts_with-clause-yes : goal.returns-then-starts_with-clause-yes
returns-then-starts_with-clause-yes c = λ yes. inl (_, (starts_is Decides-eqb frame_mark c.args.bytes.now c.starts_with.result c.starts_with.ensures.value).0 yes)

pub returns-else-starts_with-clause-yes : goal.returns-else-starts_with-clause-yes
returns-else-starts_with-clause-yes c = λ yes. inr (_, (starts_is Decides-eqb spaced_mark c.args.bytes.now c.starts_with-else-starts_with.result c.starts_with-else-starts_with.ensures.value).0 yes)

pub returns-else-starts_with-clause-no : goal.returns-else-starts_with-clause-no
returns-else-starts_with-clause-no c = λ no.
    no_front c.args.bytes.now c.requires
    (λ b. let plain = (starts_is Decides-eqb frame_mark c.args.bytes.now c.starts_with.result c.starts_with.ensures.value).1 b.0 b.1 in let other = c.if-starts_with.false in cc)
    (λ b. let spaced = (starts_is Decides-eqb spaced_mark c.args.bytes.now c.starts_with-else-starts_with.result c.starts_with-else-starts_with.ensures.value).1 b.0 b.1 in cc)
