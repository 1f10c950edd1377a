-- What was offered to a filter and what it gave, and the histories of a filter.
use Rattle.std.specs.Prelude.{◌≡◌, ℕ, ◌<◌, if◌then◌else◌, Bool, true, [], ◌∷◌, ◌++◌}
use Rattle.av_frame.specs.Frames.{FrameValue}
use Rattle.av_frame.specs.Streams.{Stream, Streams, open_stream, ended_stream, at_pad, after, AllRise}
use Rattle.av_frame.specs.FilterLaws.{Pads}

-- The stream that was offered on each input, ended where it was finished, and the stream that was given on each output,
-- ended if End was returned.
pub record History : Type 0 where
  pub ins : Streams
  pub outs : Streams

-- the history of a new filter
abbrev pub no_history : History
no_history = record { ins = λ _. open_stream []; outs = λ _. open_stream [] }

abbrev pub with_frame : Stream → FrameValue → Stream
with_frame s x = record { frames = s.frames ++ x ∷ []; ended = s.ended }

-- then x was offered on input i
abbrev pub offered : History → ℕ → FrameValue → History
offered h i x = record { ins = at_pad h.ins i (with_frame (h.ins i) x); outs = h.outs }

-- then input i was finished
abbrev pub finished : History → ℕ → History
finished h i = record { ins = at_pad h.ins i (ended_stream (h.ins i).frames); outs = h.outs }

-- then x was given on output o
abbrev pub given : History → ℕ → FrameValue → History
given h o x = record { ins = h.ins; outs = at_pad h.outs o (with_frame (h.outs o) x) }

-- then End was returned on output o
abbrev pub end_given : History → ℕ → History
end_given h o = record { ins = h.ins; outs = at_pad h.outs o (ended_stream (h.outs o).frames) }

-- s, and after it t if s is open
abbrev pub joined : Stream → Stream → Stream
joined s t = if s.ended then s else after s.frames t

abbrev pub all_joined : Streams → Streams → Streams
all_joined s t = λ i. joined (s i) (t i)

-- A filter of the function `whole` has a history: whatever comes after what was offered, what was given and then what is
-- still to be given are together what `whole` gives of all that was offered and comes.
pub record Stands (p : Pads) (whole rest : Streams → Streams) (closes over : ℕ → Bool) (h : History) : Type 0 where
  pub is : (ins : Streams) → AllRise p.inputs ins → AllRise p.inputs (all_joined h.ins ins) → (o : ℕ) → o < p.outputs → whole (all_joined h.ins ins) o ≡ joined (h.outs o) (rest ins o)
  -- a finished input is closed
  pub closed_is : (i : ℕ) → i < p.inputs → (h.ins i).ended ≡ true → closes i ≡ true
  pub over_is : (o : ℕ) → o < p.outputs → (h.outs o).ended ≡ true → over o ≡ true
