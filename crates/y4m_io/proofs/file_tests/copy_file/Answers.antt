use Rattle.std.proofs.Common.{}
use Rattle.y4m_header.proofs.KnownLemmas.{header_writable}
use Rattle.y4m_io.proofs.file_tests.copy_file.Goals as goal

pub write_frames-requires-clause-writable : goal.write_frames-requires-clause-writable
write_frames-requires-clause-writable g c = header_writable c.in-Ok-header.ensures.heads.means
