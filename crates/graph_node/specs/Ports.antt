-- What contracts see of the inputs and outputs of a node. This project's own.
use Rattle.std.specs.Prelude.{◌≡◌, ◌≤◌, ◌||◌, ◌&&◌, not, ℕ, Bool, true, false, ◌++◌, option_to_list, Some}
use Rattle.link_ports.specs.Ends.{Link, Sender, Receiver, sent, received, is_closing, is_closed}
use Rattle.link_ports.specs.Moves.{sender_moves, receiver_moves, sender_core, receiver_core}
use Rattle.link_ports.specs.Parcels.{front_of}
use mathlib.Core.List.{IsPrefix}
use Rattle.av_frame.specs.Frames.{FrameValue}
use Rattle.av_base.specs.declared.shapes.Shape.{Shape}
use Rattle.av_frame.specs.Streams.{Stream, Begins, Lawful}
use Rattle.graph_node.specs.Times.{IsPast}
use Rattle.graph_node.specs.declared.inlet.Inlet.{Inlet}
use Rattle.graph_node.specs.declared.outlet.Outlet.{Outlet}

-- ---- an input

-- from a to b at a closed end: what arrives is taken and dropped
pub record Arrives {T : Type 0} (a b : Receiver T) : Type 0 where
  pub link : b.link ≡ a.link
  pub taken : IsPrefix a.taken b.taken
  pub same : a.end_received ≡ true → b.taken ≡ a.taken
  pub closing : is_closing b ≡ is_closing a
  pub after_end : a.end_received ≡ true → b.end_received ≡ true
  pub grows : receiver_moves a ≤ receiver_moves b

-- What was offered: all that was taken, but for a frame that waits. It has ended once the filter was told so.
abbrev pub offered : Inlet → Stream
offered i = record { frames = front_of i.port.taken (option_to_list i.pending); ended = i.finished }

-- all that came out of the ring
abbrev pub arrived : Inlet → Stream
arrived i = record { frames = received i.port; ended = i.port.end_received }

-- What the filter was told of what was offered: all of it, or some first frames if the input was closed. What arrives at a
-- closed input is dropped.
pub record IsTold (closing : Bool) (offered told : Stream) : Type 0 where
  pub begins : Begins told offered
  pub whole : closing ≡ false → told ≡ offered

abbrev pub inlet_id : Inlet → Link
inlet_id i = i.port.link

abbrev pub closing : Inlet → Bool
closing i = is_closing i.port

abbrev pub inlet_shape : Inlet → Shape
inlet_shape i = i.shape

abbrev pub inlet_core : Inlet → Receiver FrameValue
inlet_core i = receiver_core i.port

abbrev pub inlet_moves : Inlet → ℕ
inlet_moves i = receiver_moves i.port

-- the frame that waits, if any, is not of the input's shape or not later than the one before it
abbrev pub Blocked : Inlet → Type 0
Blocked i = (y : FrameValue) → i.pending ≡ Some y → y.shape ≡ i.shape → IsPast i.last y.pts → ⊥

-- if all that arrived is lawful, all of it was offered
abbrev pub Drawn : Inlet → Type 0
Drawn i = Lawful i.shape (arrived i).frames → arrived i ≡ offered i

-- what arrived, the closing and the wants are as they were
pub record SameInlet (a b : Inlet) : Type 0 where
  pub id : inlet_id b ≡ inlet_id a
  pub arrived_is : arrived b ≡ arrived a
  pub shape : b.shape ≡ a.shape
  pub closing_is : closing b ≡ closing a
  pub asked : b.port.asked ≡ a.port.asked
  pub grows : inlet_moves a ≤ inlet_moves b

-- ---- an output

-- what the filter gave: what was sent, and a frame that is held
abbrev pub given : Outlet → Stream
given o = record { frames = sent o.port ++ option_to_list o.held; ended = o.port.ended }

abbrev pub outlet_id : Outlet → Link
outlet_id o = o.port.link

abbrev pub closed : Outlet → Bool
closed o = is_closed o.port

abbrev pub outlet_core : Outlet → Sender FrameValue
outlet_core o = sender_core o.port

abbrev pub outlet_moves : Outlet → ℕ
outlet_moves o = sender_moves o.port

-- nothing more is to be sent there
abbrev pub is_done : Outlet → Bool
is_done o = is_closed o.port || o.port.ended

-- the taker waits for a frame
abbrev pub is_wanted : Outlet → Bool
is_wanted o = o.port.wanted && not (is_closed o.port || o.port.ended)
