use Rattle.y4m_header.proofs.LawLemmas.{meaning_some, meaning_one, meaning_pictured}
use Rattle.y4m_header.proofs.WrittenLemmas.{meaning_written}
use Rattle.y4m_header.proofs.law.headers_have_one_meaning.Goals as goal

pub returns : goal.returns
returns c = record { some = meaning_some; one = meaning_one; pictured = meaning_pictured; written = meaning_written }
