use Rattle.std.proofs.Common.{length}
use Rattle.av_text.proofs.slow_reader.+quote_len.Given as goal

abbrev pub decreases-quote_len : goal.decreases-quote_len
decreases-quote_len l = length l.text.now
