-- Small filters of the tests: one that ends before its input does, and one that works frame by frame.
use Rattle.std.specs.Prelude.{ℕ, ◌==◌, ◌||◌, nat_le, if◌then◌else◌, length, take}
use Rattle.av_frame.specs.Frames.{FrameValue, planes_by}
use Rattle.av_frame.specs.Streams.{Stream, Streams}

-- ---- the first n frames

-- it ends once n frames are there
abbrev pub first_stream : ℕ → Stream → Stream
first_stream n s = record { frames = take n s.frames; ended = s.ended || nat_le n (length s.frames) }

abbrev pub first_rule : ℕ → Streams → Streams
first_rule n ins = λ o. first_stream n (ins 0)

-- ---- on output 0 a card of one grey in place of each frame, and on output 1 the frame

abbrev pub card : FrameValue → FrameValue
card x = record x { planes = planes_by x.shape (λ p r c. 200) }

abbrev pub card_made : ℕ → FrameValue → FrameValue
card_made o x = if o == 0 then card x else x
