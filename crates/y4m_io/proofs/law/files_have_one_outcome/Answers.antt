use Rattle.y4m_io.proofs.Examples.{files_law}
use Rattle.y4m_io.proofs.law.files_have_one_outcome.Goals as goal

pub returns : goal.returns
returns c = files_law
