-- Forms of filters: what is still to be given by what waits and by a function on streams.
use Rattle.std.specs.Prelude.{◌≡◌, ℕ, ◌<◌, ◌-◌, ◌==◌, ◌⊎◌, if◌then◌else◌, Bool, true, false, List, [], map, length, get_or}
use Rattle.std.specs.List.{range_with_len}
use Rattle.av_frame.specs.Frames.{FrameValue}
use Rattle.av_frame.specs.Streams.{Stream, Streams, ended_stream, after, Begins, AllBegin, Rises, AllRise}
use Rattle.av_frame.specs.FilterLaws.{Pads}

abbrev pub is_empty : List FrameValue → Bool
is_empty xs = length xs == 0

-- ---- any number of inputs

-- the laws of a function on the streams of all inputs
pub record RuleLaws (p : Pads) (rule : Streams → Streams) : Type 0 where
  -- where each input's stream begins another, each output's begins the other's
  pub begins : (s t : Streams) → AllRise p.inputs s → AllRise p.inputs t → AllBegin p.inputs s t → AllBegin p.outputs (rule s) (rule t)
  -- ended inputs give ended outputs
  pub ends : (s : Streams) → ((i : ℕ) → i < p.inputs → (s i).ended ≡ true) → (o : ℕ) → o < p.outputs → (rule s o).ended ≡ true

-- what an input has from the frames on that were offered and are kept: these, and then what comes, or nothing where it
-- is finished
abbrev pub held : List FrameValue → Bool → Stream → Stream
held kept is_finished s = after kept (if is_finished then ended_stream [] else s)

abbrev pub all_held : (ℕ → List FrameValue) → (ℕ → Bool) → Streams → Streams
all_held kept is_finished ins = λ i. held (kept i) (is_finished i) (ins i)

-- the frames that wait on each output, and after them what the rule gives of what the inputs have
abbrev pub held_rest : (Streams → Streams) → (ℕ → List FrameValue) → (ℕ → Bool) → (ℕ → List FrameValue) → Streams → Streams
held_rest rule kept is_finished waiting ins = λ o. after (waiting o) (rule (all_held kept is_finished ins) o)

-- What a filter of this form shows of its own tests, beside the laws of its rule. Nothing is to come on an output where
-- the rule gives nothing more whatever comes.
pub record HeldTests (p : Pads) (rule : Streams → Streams) (kept : ℕ → List FrameValue) (is_finished : ℕ → Bool) (waiting : ℕ → List FrameValue) (closes wants over : ℕ → Bool) : Type 0 where
  -- an input is closed where it is finished or the rule gives nothing more on any output
  pub closed_is : (i : ℕ) → i < p.inputs → closes i ≡ true
      → (is_finished i ≡ true) ⊎ ((o : ℕ) → o < p.outputs → (ins : Streams) → rule (all_held kept is_finished ins) o ≡ ended_stream [])
  pub wanted_open : (i : ℕ) → i < p.inputs → wants i ≡ true → closes i ≡ false
  -- an output is over where nothing waits there and the rule gives nothing more on it
  pub over_waits : (o : ℕ) → o < p.outputs → over o ≡ true → waiting o ≡ []
  pub over_is : (o : ℕ) → o < p.outputs → over o ≡ true → (ins : Streams) → rule (all_held kept is_finished ins) o ≡ ended_stream []
  pub all_closed : ((o : ℕ) → o < p.outputs → over o ≡ true) → (i : ℕ) → i < p.inputs → closes i ≡ true

-- ---- one input and one output

-- the laws of a function on one stream
pub record StreamLaws (f : Stream → Stream) : Type 0 where
  pub begins : (s t : Stream) → Rises s.frames → Rises t.frames → Begins s t → Begins (f s) (f t)
  pub ends : (s : Stream) → s.ended ≡ true → (f s).ended ≡ true

-- the frames that wait, and after them what f gives of what comes, or nothing more if the filter is done
abbrev pub waiting_then : List FrameValue → Bool → (Stream → Stream) → Streams → Streams
waiting_then waiting is_done f ins = λ o. after waiting (if is_done then ended_stream [] else f (ins 0))

-- ---- one frame on each output for each frame

-- y is shown when x is
pub record SameTimes (x y : FrameValue) : Type 0 where
  pub pts : y.pts ≡ x.pts
  pub duration : y.duration ≡ x.duration

-- one frame for each frame
abbrev pub each_stream : (FrameValue → FrameValue) → Stream → Stream
each_stream f s = record { frames = map f s.frames; ended = s.ended }

-- on output o the frames that `made o` makes of those of the only input
abbrev pub each_rule : (ℕ → FrameValue → FrameValue) → Streams → Streams
each_rule made ins = λ o. each_stream (made o) (ins 0)

-- what is made of a frame for the outputs from 1 on, in order
abbrev pub later_row : (ℕ → FrameValue → FrameValue) → ℕ → FrameValue → List FrameValue
later_row made outputs x = map (λ o. made o x) (range_with_len 1 (outputs - 1))

-- what a list of queues has for an output
abbrev pub queue : List (List FrameValue) → ℕ → List FrameValue
queue lists o = get_or lists o []

-- What contracts see of an `Each`: its rule, the frames that were offered and of which nothing was made yet, the frames
-- that were made and wait on each output, and whether its input is finished.
pub record EachValue (P : Type 0) : Type 0 where
  pub rule : P
  pub offered : List FrameValue
  pub waiting : List (List FrameValue)
  pub finished : Bool

-- what an `Each` is still to give
abbrev pub each_rest : {P : Type 0} → (ℕ → FrameValue → FrameValue) → EachValue P → Streams → Streams
each_rest made e = held_rest (each_rule made) (λ _. e.offered) (λ _. e.finished) (queue e.waiting)

-- what contracts see of the queues of an `Each`: what waits on each output, and whether each has room for one more
pub record QueuesValue : Type 0 where
  pub lists : List (List FrameValue)
  pub has_room : Bool
