-- What the steps of linking ensure.
use Rattle.std.specs.Prelude.{◌≡◌, ◌<◌, ◌≤◌, ◌⊎◌, ℕ, Bool, true, false, List, Option, Some, None, length, map, All, MatchOption, slice_index_or, set, bytes_eq}
use Rattle.std.specs.List.{slice_get, Contains}
use Rattle.std.specs.HashMap.{get_by}
use Rattle.av_base.specs.declared.formats.Media.{Media}
use Rattle.graph_plan.specs.declared.plan.Edge.{Edge}
use Rattle.graph_plan.specs.declared.places.Place.{Place}
use Rattle.graph_plan.specs.declared.places.Parts.{Parts}
use Rattle.graph_plan.specs.declared.places.Side.{Side}
use Rattle.graph_plan.specs.declared.places.Side.TheVariants.{In, Out}
use Rattle.graph_plan.specs.declared.labels.LabelTable.{LabelTable}
use Rattle.graph_plan.specs.declared.origins.Origin.{Origin}
use Rattle.graph_plan.specs.declared.origins.Origin.TheVariants.{Pad, File, Open}
use Rattle.graph_plan.specs.declared.origins.Inlet.{Inlet}
use Rattle.av_base.specs.First.{IsFirst, Never}
use Rattle.graph_plan.specs.Graphs.{Graph, label, kind, pads_on, AreJoined, SaysFile, NamesFile, IsNamed, IsOnNoOutput, IsOpen}
use Rattle.graph_plan.specs.Links.{IsTaken, IsLeft}
use Rattle.graph_plan.specs.Refusals.{IsTwice, HasTooMany, HasWrongPads, HasLabelTwice, IsSmall}

abbrev pub graph_of : Parts → Graph
graph_of parts = record { calls = parts.calls.now; pads = parts.pads.now; files = parts.files.now }

-- ---- tables of labels

-- the pad that a table has for a label
abbrev pub pad_of : LabelTable → List ℕ → Option Place
pad_of table name = get_by (λ k. bytes_eq name k.now) table.pads

-- a table has a pad for a label
abbrev pub HasPad : LabelTable → List ℕ → Type 0
HasPad table name = (place : Place) × (pad_of table name ≡ Some place)

-- all labels of output pads are to be noted, and those of input pads that another table has
abbrev pub IsNoted : Side → LabelTable → List ℕ → Type 0
IsNoted Out others name = Unit {0}
IsNoted In others name = HasPad others name

-- the label of a place is also on an earlier one of these
pub record IsRepeated (graph : Graph) (side : Side) (Such : List ℕ → Type 0) (seen : List Place) (at : ℕ) (place : Place) : Type 0 where
  pub here : slice_get seen at ≡ Some place
  pub name : List ℕ
  pub such : Such name
  pub is_label : label graph side place.filter place.pad ≡ Some name
  pub before : ℕ
  pub earlier : Place
  pub there : slice_get seen before ≡ Some earlier
  pub is_label_too : label graph side earlier.filter earlier.pad ≡ Some name
  pub lower : before < at

-- of these places none has a label twice, or the first that has is this filter's
abbrev pub IsFirstTwice : Graph → Side → (List ℕ → Type 0) → List Place → Option ℕ → Type 0
IsFirstTwice graph side Such seen None = (at : ℕ) (place : Place) → ¬ IsRepeated graph side Such seen at place
IsFirstTwice graph side Such seen (Some filter) = (at : ℕ) × (place : Place) × IsRepeated graph side Such seen at place × (place.filter ≡ filter)
    × ((other : ℕ) (another : Place) → other < at → ¬ IsRepeated graph side Such seen other another)

-- a table has those labels of these places that are such
pub record HasSeen (graph : Graph) (side : Side) (Such : List ℕ → Type 0) (seen : List Place) (table : LabelTable) : Type 0 where
  pub pad : (name : List ℕ) (place : Place) → pad_of table name ≡ Some place
      → ((at : ℕ) × (slice_get seen at ≡ Some place)) × (label graph side place.filter place.pad ≡ Some name) × Such name
  pub all : (at : ℕ) (place : Place) (name : List ℕ) → slice_get seen at ≡ Some place → label graph side place.filter place.pad ≡ Some name → Such name → HasPad table name
  pub twice : IsFirstTwice graph side Such seen table.twice

-- a table has those labels of a side that are such
pub record Notes (graph : Graph) (side : Side) (Such : List ℕ → Type 0) (table : LabelTable) : Type 0 where
  pub pad : (name : List ℕ) (place : Place) → pad_of table name ≡ Some place → (label graph side place.filter place.pad ≡ Some name) × Such name
  pub all : (filter pad : ℕ) (name : List ℕ) → label graph side filter pad ≡ Some name → Such name → HasPad table name
  pub twice : MatchOption table.twice (Never (IsTwice graph side Such)) (IsFirst (IsTwice graph side Such))

-- the lesser of two numbers that may be there
abbrev pub IsLesser : Option ℕ → Option ℕ → Option ℕ → Type 0
IsLesser a b None = (a ≡ None) × (b ≡ None)
IsLesser a b (Some k) = ((a ≡ Some k) ⊎ (b ≡ Some k)) × ((m : ℕ) → a ≡ Some m → k ≤ m) × ((m : ℕ) → b ≡ Some m → k ≤ m)

-- ---- origins

-- an input pad's label names neither an output pad nor a file
pub record IsUnknown (graph : Graph) (taker : Place) : Type 0 where
  pub name : List ℕ
  pub is_label : label graph In taker.filter taker.pad ≡ Some name
  pub on_no_output : IsOnNoOutput graph name
  pub names_none : (file : ℕ) (said : Option Media) → SaysFile name file said → ¬ (file < length graph.files)

abbrev pub IsOriginOf : Graph → Place → Origin → Type 0
IsOriginOf graph taker (Pad giver) = AreJoined graph giver taker
IsOriginOf graph taker (File file said) = NamesFile graph taker file said
IsOriginOf graph taker Open = IsOpen graph taker

-- an input pad with its origin
abbrev pub IsInlet : Graph → Inlet → Type 0
IsInlet graph inlet = IsOriginOf graph inlet.taker inlet.origin

abbrev pub takers : List Inlet → List Place
takers inlets = map (λ (i : Inlet). i.taker) inlets

-- the input pads, in order, with their origins
pub record AreInlets (graph : Graph) (inlets : List Inlet) : Type 0 where
  pub are : takers inlets ≡ pads_on graph In
  pub each : All (IsInlet graph) inlets

-- both are there, and differ
abbrev pub Differ : Option Media → Option Media → Type 0
Differ first second = (one other : Media) × (first ≡ Some one) × (second ≡ Some other) × ¬ (one ≡ other)

-- an input pad gets another kind than its own, or than its label says
abbrev pub IsMismatched : Graph → Place → Type 0
IsMismatched graph taker = ((giver : Place) × AreJoined graph giver taker × Differ (kind graph Out giver.filter giver.pad) (kind graph In taker.filter taker.pad))
    ⊎ ((file : ℕ) × (said : Option Media) × NamesFile graph taker file said
    × (Differ (slice_get graph.files file) (kind graph In taker.filter taker.pad) ⊎ Differ (slice_get graph.files file) said))

-- a link between these pads' filters, of some of these inlets
abbrev pub IsJoinedBy : List Inlet → ℕ → ℕ → Type 0
IsJoinedBy inlets giver taker = (inlet : Inlet) × Contains inlets inlet × ((out : Place) × (inlet.origin ≡ Pad out) × (out.filter ≡ giver) × (inlet.taker.filter ≡ taker))

-- a label of one of these names the file
abbrev pub IsNamedBy : List Inlet → ℕ → Type 0
IsNamedBy inlets file = (inlet : Inlet) × Contains inlets inlet × ((said : Option Media) × (inlet.origin ≡ File file said))

-- of the files those are marked that labels name or these links take
pub record AreTaken (graph : Graph) (links : List Edge) (taken : List Bool) : Type 0 where
  pub each : length taken ≡ length graph.files
  pub marked : (file : ℕ) → slice_index_or taken file false ≡ true → IsNamed graph file ⊎ IsTaken links file
  pub named : (file : ℕ) → IsNamed graph file → slice_index_or taken file false ≡ true
  pub taken_is_marked : (file : ℕ) → file < length graph.files → IsTaken links file → slice_index_or taken file false ≡ true

-- a file is marked, if one is given
abbrev pub WhenMarked : Option ℕ → List Bool → List Bool → Type 0
WhenMarked None old new = new ≡ old
WhenMarked (Some file) old new = new ≡ set old file true

-- an input pad is open, and no file of its kind is left
abbrev pub FindsNoFile : Graph → List Edge → Place → Type 0
FindsNoFile graph before taker = IsOpen graph taker × ((wanted : Media) × (kind graph In taker.filter taker.pad ≡ Some wanted) × Never (IsLeft graph before wanted))

-- the graph has few links, and its labels fit its pads
pub record IsCounted (graph : Graph) : Type 0 where
  pub small : IsSmall graph
  pub few : (outputs : ℕ) × ¬ HasTooMany graph outputs
  pub pads : Never (HasWrongPads graph)

-- and no label occurs twice
pub record FitsTogether (graph : Graph) : Type 0 where
  pub counted : IsCounted graph
  pub labels : Never (HasLabelTwice graph)
