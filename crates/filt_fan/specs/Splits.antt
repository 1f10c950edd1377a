-- The function of `split` and `asplit`. This project's own.
use Rattle.av_frame.specs.Streams.{Streams}

-- every output is the only input
abbrev pub split_rule : Streams → Streams
split_rule ins = λ o. ins 0
