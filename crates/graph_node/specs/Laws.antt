-- What is told and given at one port, as a step of the histories of a filter. This project's own.
use Rattle.std.specs.Prelude.{◌≡◌, ◌≢◌, ℕ, Bool, true, false}
use Rattle.av_frame.specs.Frames.{FrameValue}
use Rattle.av_frame.specs.Streams.{Stream, Streams, at_pad}
use Rattle.filter_history.specs.Histories.{History, Stands}
use Rattle.av_frame.specs.FilterLaws.{Pads}
use Rattle.graph_node.specs.Times.{IsPast}
use Rattle.graph_node.specs.declared.inlet.Inlet.{Inlet}

-- the history with s offered on input i, or with s given on output o
abbrev pub with_in : History → ℕ → Stream → History
with_in h i s = record { ins = at_pad h.ins i s; outs = h.outs }

abbrev pub with_out : History → ℕ → Stream → History
with_out h o s = record { ins = h.ins; outs = at_pad h.outs o s }

module _ {F : Type 0} (pads : F → Pads) (rest : F → Streams → Streams) (closes over : F → ℕ → Bool) (accepts : F → ℕ → FrameValue → Type 0) where
  -- from f to g the filter was told on input i what makes t of s
  pub record Told (f g : F) (i : ℕ) (s t : Stream) : Type 0 where
    pub pads_are : pads g ≡ pads f
    pub closes_stay : (j : ℕ) → closes f j ≡ true → closes g j ≡ true
    pub others : (j : ℕ) (y : FrameValue) → j ≢ i → accepts f j y → accepts g j y
    pub stands : (whole : Streams → Streams) (h : History) → Stands (pads f) whole (rest f) (closes f) (over f) (with_in h i s) → Stands (pads f) whole (rest g) (closes g) (over g) (with_in h i t)

  -- from f to g the filter gave on output o what makes t of s
  pub record Gave (f g : F) (o : ℕ) (s t : Stream) : Type 0 where
    pub pads_are : pads g ≡ pads f
    pub closes_stay : (j : ℕ) → closes f j ≡ true → closes g j ≡ true
    pub accepts_stay : (j : ℕ) (y : FrameValue) → accepts f j y → accepts g j y
    pub stands : (whole : Streams → Streams) (h : History) → Stands (pads f) whole (rest f) (closes f) (over f) (with_out h o s) → Stands (pads f) whole (rest g) (closes g) (over g) (with_out h o t)

module _ {F : Type 0} (closes : F → ℕ → Bool) (accepts : F → ℕ → FrameValue → Type 0) where
  -- what may come next at the port is accepted, and an ended input is closed
  pub record InFit (f : F) (i : ℕ) (x : Inlet) : Type 0 where
    pub ready : x.finished ≡ false → (y : FrameValue) → y.shape ≡ x.shape → IsPast x.last y.pts → accepts f i y
    pub ended : x.finished ≡ true → closes f i ≡ true
