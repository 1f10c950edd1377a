use Rattle.std.proofs.Common.{length}
use Rattle.av_text.proofs.slow_reader.+says.Given as goal

abbrev pub decreases-says : goal.decreases-says
decreases-says l = length l.row.now
