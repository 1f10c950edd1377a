-- What a filter is still to give, by what it is still to be offered, and the laws of every filter.
use Rattle.std.specs.Prelude.{◌≡◌, ℕ, ◌<◌, ◌≤◌, Bool, true, false, []}
use Rattle.av_base.specs.declared.shapes.Shape.{Shape}
use Rattle.av_frame.specs.Frames.{FrameValue}
use Rattle.av_frame.specs.Streams.{Stream, Streams, ended_stream, at_pad, AllBegin, AllRise, AllLawful}

-- how many inputs and outputs a filter has
pub record Pads : Type 0 where
  pub inputs : ℕ
  pub outputs : ℕ

abbrev pub one_to : ℕ → Pads
one_to n = record { inputs = 1; outputs = n }

-- as many slices as a call may be asked for
abbrev pub IsSlices : ℕ → Type 0
IsSlices n = (1 ≤ n) × (n ≤ 64)

-- The laws of a filter in any state. `rest` is what is still to be given on each output, as a function of what is still
-- to be offered on each input. An input is closed where `closes` is true, needed where `wants` is, and the end of an
-- output was given where `over` is.
pub record FilterLaws (p : Pads) (rest : Streams → Streams) (closes wants over : ℕ → Bool) : Type 0 where
  -- ended inputs give ended outputs
  pub ends : (s : Streams) → ((i : ℕ) → i < p.inputs → (s i).ended ≡ true) → (o : ℕ) → o < p.outputs → (rest s o).ended ≡ true
  -- what would come on a closed input makes no difference, whatever comes on the others
  pub settled : (i : ℕ) → i < p.inputs → closes i ≡ true → (ins : Streams) (s : Stream) (o : ℕ) → o < p.outputs → rest (at_pad ins i s) o ≡ rest ins o
  -- a closed input isn't needed
  pub wanted_open : (i : ℕ) → i < p.inputs → wants i ≡ true → closes i ≡ false
  -- after its end an output gives nothing
  pub over_is : (o : ℕ) → o < p.outputs → over o ≡ true → (ins : Streams) → rest ins o ≡ ended_stream []
  -- where the end of every output was given, each input is closed
  pub all_closed : ((o : ℕ) → o < p.outputs → over o ≡ true) → (i : ℕ) → i < p.inputs → closes i ≡ true

-- What a new filter is: its function on whole streams is `rule`, it takes frames of the inputs' shapes, and of lawful
-- inputs it makes lawful outputs. Where each input's stream begins another, each output's begins the other's. This is a
-- law of the function, and not of `rest` in every state: what comes to a filter that keeps frames may begin before these.
pub record IsNew (p : Pads) (rest : Streams → Streams) (accepts : ℕ → FrameValue → Type 0) (pads : Pads) (rule : Streams → Streams) (in_shape out_shape : ℕ → Shape) : Type 0 where
  pub pads_are : p ≡ pads
  pub rest_is : (ins : Streams) (o : ℕ) → o < pads.outputs → rest ins o ≡ rule ins o
  pub accepts_first : (i : ℕ) (x : FrameValue) → i < pads.inputs → x.shape ≡ in_shape i → accepts i x
  pub begins : (s t : Streams) → AllRise pads.inputs s → AllRise pads.inputs t → AllBegin pads.inputs s t → AllBegin pads.outputs (rule s) (rule t)
  pub lawful : (ins : Streams) → AllLawful pads.inputs in_shape ins → AllLawful pads.outputs out_shape (rule ins)
