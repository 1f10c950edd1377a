use Rattle.std.proofs.Common.{◌-◌, length}
use Rattle.av_text.proofs.slow_reader.+row_end.Given as goal

abbrev pub decreases-row_end : goal.decreases-row_end
decreases-row_end l = length l.text.now - l.place
