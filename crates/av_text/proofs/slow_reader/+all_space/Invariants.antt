use Rattle.std.proofs.Common.{length}
use Rattle.av_text.proofs.slow_reader.+all_space.Given as goal

abbrev pub decreases-all_space : goal.decreases-all_space
decreases-all_space l = length l.text.now
