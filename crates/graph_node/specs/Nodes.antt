-- What contracts see of a node. This project's own.
use Rattle.std.specs.Prelude.{List, All, ◌≡◌, ◌≢◌, ◌⊎◌, ℕ, ◌+◌, ◌<◌, ◌≤◌, Bool, true, false, [], map, length, slice_index_or, slice_get, Some, None}
use Rattle.av_frame.specs.Frames.{FrameValue}
use Rattle.av_frame.specs.Streams.{Streams, open_stream, nothing_more}
use Rattle.filter_history.specs.Histories.{Stands}
use Rattle.av_frame.specs.FilterLaws.{Pads}
use Rattle.graph_node.specs.Ports.{IsTold, offered, given, closing, closed, inlet_id, inlet_shape, outlet_id, inlet_moves, outlet_moves, inlet_core, outlet_core, is_done, is_wanted, Drawn}
use Rattle.link_ports.specs.Moves.{FillDone, FlushDone}
use Rattle.std.specs.List.{sum_by}
use Rattle.av_base.specs.declared.shapes.Shape.{Shape}
use Rattle.link_ports.specs.Ends.{Receiver, Sender}
use Rattle.graph_node.specs.Laws.{InFit}
use Rattle.graph_node.specs.declared.inlet.Inlet.{Inlet}
use Rattle.graph_node.specs.declared.outlet.Outlet.{Outlet}
use Rattle.graph_node.specs.declared.node.Node.{Node}

module _ {F : Type 0} where
  -- the ports by their numbers, and d where there is none
  abbrev pub inlet : Node F → ℕ → Inlet → Inlet
  inlet n i d = slice_index_or n.ins.items i d

  abbrev pub outlet : Node F → ℕ → Outlet → Outlet
  outlet n o d = slice_index_or n.outs.items o d

  -- what was offered on each input, and what the filter gave on each output
  abbrev pub offered_all : Node F → Streams
  offered_all n = λ i. slice_index_or (map offered n.ins.items) i (open_stream [])

  abbrev pub given_all : Node F → Streams
  given_all n = λ o. slice_index_or (map given n.outs.items) o (open_stream [])

  -- which inputs the node has closed, and which outputs were closed
  abbrev pub closing_all : Node F → ℕ → Bool
  closing_all n = λ i. slice_index_or (map closing n.ins.items) i false

  abbrev pub closed_all : Node F → ℕ → Bool
  closed_all n = λ o. slice_index_or (map closed n.outs.items) o false

  -- how many counted moves were made at the ports
  unfoldable pub moves : Node F → ℕ
  moves n = sum_by inlet_moves n.ins.items + sum_by outlet_moves n.outs.items

  -- nothing more is to be sent on any output
  abbrev pub AllDone : Node F → Type 0
  AllDone n = (o : ℕ) (d : Outlet) → o < n.outputs → is_done (outlet n o d) ≡ true

  abbrev pub SomeWanted : Node F → Type 0
  SomeWanted n = (o : ℕ) × (d : Outlet) × (o < n.outputs) × (is_wanted (outlet n o d) ≡ true)

module _ {F : Type 0} (pads : F → Pads) (rest : F → Streams → Streams) (closes over : F → ℕ → Bool) where
  -- The law of a node whose filter has the function `whole`. Of what the filter was told and what still comes, `whole` makes
  -- what the filter gave and then what it is still to give.
  pub record Law (whole : Streams → Streams) (n : Node F) : Type 0 where
    pub told : Streams
    pub is_told : (i : ℕ) → IsTold (closing_all n i) (offered_all n i) (told i)
    pub stands : Stands (pads n.filter) whole (rest n.filter) (closes n.filter) (over n.filter) (record { ins = told; outs = given_all n })

module _ {F : Type 0} (pads : F → Pads) (closes : F → ℕ → Bool) (accepts : F → ℕ → FrameValue → Type 0) where
  -- the ports fit the filter
  pub record Fit (n : Node F) : Type 0 where
    pub inputs_are : (pads n.filter).inputs ≡ n.inputs
    pub outputs_are : (pads n.filter).outputs ≡ n.outputs
    pub ins_len : length n.ins.items ≡ n.inputs
    pub outs_len : length n.outs.items ≡ n.outputs
    pub each : (i : ℕ) (d : Inlet) → i < n.inputs → InFit closes accepts n.filter i (inlet n i d)
    pub shut : (i : ℕ) (d : Inlet) → i < n.inputs → closing (inlet n i d) ≡ true → (closes n.filter i ≡ true) ⊎ AllDone n

module _ {F : Type 0} (pads : F → Pads) (rest : F → Streams → Streams) (closes over : F → ℕ → Bool) where
  -- from a to b: the law stays, the ports are those of the same links, and the count of moves doesn't fall
  pub record Step (a b : Node F) : Type 0 where
    pub law : (whole : Streams → Streams) → Law pads rest closes over whole a → Law pads rest closes over whole b
    pub pads_are : pads b.filter ≡ pads a.filter
    pub closes_stay : (j : ℕ) → closes a.filter j ≡ true → closes b.filter j ≡ true
    pub in_ids : map inlet_id b.ins.items ≡ map inlet_id a.ins.items
    pub out_ids : map outlet_id b.outs.items ≡ map outlet_id a.outs.items
    pub inputs_are : b.inputs ≡ a.inputs
    pub outputs_are : b.outputs ≡ a.outputs
    pub shapes : map inlet_shape b.ins.items ≡ map inlet_shape a.ins.items
    pub grows : moves a ≤ moves b

module _ {F : Type 0} (closes : F → ℕ → Bool) where
  -- all that arrived at input i was offered, or it makes no difference
  abbrev pub DrawnAt : Node F → ℕ → Type 0
  DrawnAt n i = (d : Inlet) → (closing (inlet n i d) ≡ true) ⊎ (closes n.filter i ≡ true) ⊎ Drawn (inlet n i d)

  abbrev pub AllDrawn : Node F → Type 0
  AllDrawn n = (i : ℕ) → i < n.inputs → DrawnAt n i

  -- an input that makes no difference any more was closed
  abbrev pub ClosedAt : Node F → ℕ → Type 0
  ClosedAt n i = (d : Inlet) → (closes n.filter i ≡ true) ⊎ AllDone n → closing (inlet n i d) ≡ true

  abbrev pub AllClosed : Node F → Type 0
  AllClosed n = (i : ℕ) → i < n.inputs → ClosedAt n i

module _ {F : Type 0} (rest : F → Streams → Streams) where
  -- for now nothing is to be given on output o, and nothing is held there
  abbrev pub AskedAt : Node F → ℕ → Type 0
  AskedAt n o = (d : Outlet) → (is_done (outlet n o d) ≡ true) ⊎ ((rest n.filter nothing_more o ≡ open_stream []) × ((outlet n o d).held ≡ None))

  abbrev pub AllAsked : Node F → Type 0
  AllAsked n = (o : ℕ) → o < n.outputs → AskedAt n o

module _ {F : Type 0} (wants : F → ℕ → Bool) where
  -- some input is needed
  abbrev pub Needs : Node F → Type 0
  Needs n = (i : ℕ) × (i < n.inputs) × (wants n.filter i ≡ true)

  -- where something more is to be sent, some input is needed
  abbrev pub AllNeed : Node F → Type 0
  AllNeed n = (o : ℕ) (d : Outlet) → o < n.outputs → is_done (outlet n o d) ≡ false → Needs n

  -- each input that is needed was asked while some output is wanted
  abbrev pub WantedAt : Node F → ℕ → Type 0
  WantedAt n i = (d : Inlet) → wants n.filter i ≡ true → SomeWanted n → (inlet n i d).port.asked ≡ true

  abbrev pub AllWanted : Node F → Type 0
  AllWanted n = (i : ℕ) → i < n.inputs → WantedAt n i

module _ {F : Type 0} (rest : F → Streams → Streams) (closes wants : F → ℕ → Bool) where
  -- A node that can do nothing: what arrived was offered, nothing more can be given, and ends, closings and wants were noted.
  pub record IsIdle (n : Node F) : Type 0 where
    pub drawn : AllDrawn closes n
    pub asked : AllAsked rest n
    pub closed : AllClosed closes n
    pub needs : AllNeed wants n
    pub wanted : AllWanted wants n

module _ {F : Type 0} (pads : F → Pads) (rest : F → Streams → Streams) (closes wants : F → ℕ → Bool) (accepts : F → ℕ → FrameValue → Type 0) where
  -- What holds of every node between two calls. Its mark `idle` is set only while it can do nothing.
  pub record IsSound (n : Node F) : Type 0 where
    pub fit : Fit pads closes accepts n
    pub rests : n.idle ≡ true → IsIdle rest closes wants n

module _ {F : Type 0} where
  -- the ends of all links are the same, except for what is known of the rings
  pub record SameCores (a b : Node F) : Type 0 where
    pub ins : map inlet_core b.ins.items ≡ map inlet_core a.ins.items
    pub outs : map outlet_core b.outs.items ≡ map outlet_core a.outs.items

  -- as far as is known, nothing can move at any port
  pub record NothingMoves (n : Node F) : Type 0 where
    pub ins : (i : ℕ) (r : Inlet) → slice_get n.ins.items i ≡ Some r → FillDone r.port
    pub outs : (o : ℕ) (q : Outlet) → slice_get n.outs.items o ≡ Some q → FlushDone q.port

  -- from a to b one output was only looked at
  pub record OutSeen (a b : Node F) (o : ℕ) : Type 0 where
    pub filter_is : b.filter ≡ a.filter
    pub ins_are : b.ins ≡ a.ins
    pub outputs_are : b.outputs ≡ a.outputs
    pub others : (j : ℕ) (q : Outlet) → j ≢ o → slice_get b.outs.items j ≡ Some q → slice_get a.outs.items j ≡ Some q

  -- or one input
  pub record InSeen (a b : Node F) (i : ℕ) : Type 0 where
    pub filter_is : b.filter ≡ a.filter
    pub outs_are : b.outs ≡ a.outs
    pub others : (j : ℕ) (r : Inlet) → j ≢ i → slice_get b.ins.items j ≡ Some r → slice_get a.ins.items j ≡ Some r

-- the inputs and outputs at the ends of new links
pub record AreInlets (shapes : List Shape) (ports : List (Receiver FrameValue)) (ins : List Inlet) : Type 0 where
  pub ports_are : map (λ (r : Inlet). r.port) ins ≡ ports
  pub shapes_are : map inlet_shape ins ≡ shapes
  pub empty : All (λ (r : Inlet). (offered r ≡ open_stream []) × (closing r ≡ false) × (r.last ≡ None)) ins

pub record AreOutlets (ports : List (Sender FrameValue)) (outs : List Outlet) : Type 0 where
  pub ports_are : map (λ (q : Outlet). q.port) outs ≡ ports
  pub empty : All (λ (q : Outlet). given q ≡ open_stream []) outs

-- the node of a filter at the ends of these links
pub record IsNewNode {F : Type 0} (filter : F) (shapes : List Shape) (ins : List (Receiver FrameValue)) (outs : List (Sender FrameValue)) (n : Node F) : Type 0 where
  pub filter_is : n.filter ≡ filter
  pub ins_are : AreInlets shapes ins n.ins.items
  pub outs_are : AreOutlets outs n.outs.items
  pub inputs_are : n.inputs ≡ length ins
  pub outputs_are : n.outputs ≡ length outs
  pub idle_is : n.idle ≡ false
