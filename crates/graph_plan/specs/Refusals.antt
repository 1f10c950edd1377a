-- Why a graph has no links: each kind of fault, and the first that occurs.
use Rattle.std.specs.Prelude.{◌≡◌, ◌≢◌, ◌<◌, ◌+◌, ◌++◌, ◌⊎◌, ℕ, List, [], ◌∷◌, Option, Some, None, length, sum_by, All}
use Rattle.std.specs.List.{slice_get}
use Rattle.av_base.specs.declared.formats.Media.{Media}
use Rattle.graph_text.specs.declared.graph.FilterCall.{FilterCall}
use Rattle.graph_plan.specs.declared.plan.Pads.{Pads}
use Rattle.graph_plan.specs.declared.plan.Edge.{Edge}
use Rattle.graph_plan.specs.declared.plan.Source.{Source}
use Rattle.graph_plan.specs.declared.plan.DraftPlan.{DraftPlan}
use Rattle.graph_plan.specs.declared.plan.PlanFault.{PlanFault}
use Rattle.graph_plan.specs.declared.plan.PlanFault.TheVariants.{TooManyLinks, PadCount, LabelTwice, UnknownInput, MediaMismatch, Cycle, OpenPad, NoSuchOutput, Unmapped, WrongKind}
use Rattle.graph_plan.specs.declared.places.Place.{Place}
use Rattle.graph_plan.specs.declared.places.Side.{Side}
use Rattle.graph_plan.specs.declared.places.Side.TheVariants.{In, Out}
use Rattle.av_base.specs.First.{IsFirst, Never}
use Rattle.graph_plan.specs.Orders.{Reaches}
use Rattle.graph_plan.specs.Graphs.{Graph, labels, kinds, label, kind, pads_on, IsBefore, AreNeighbours, AreJoined, TakesFrom, IsOnNoOutput, SaysFile, NamesFile, IsOpen}
use Rattle.graph_plan.specs.Links.{IsLeft, IsOrigin, link_to, IsDraft}

-- the links: as many as input pads and outputs
abbrev pub link_count : Graph → ℕ → ℕ
link_count graph outputs = sum_by (λ (p : Pads). length p.ins) graph.pads + outputs

-- the greatest number of links
abbrev pub most_links : ℕ
most_links = 1024

abbrev pub HasTooMany : Graph → ℕ → Type 0
HasTooMany graph outputs = most_links < link_count graph outputs

-- a filter has more labels than pads
pub record HasMoreLabels (graph : Graph) (filter : ℕ) : Type 0 where
  pub call : FilterCall
  pub is_call : slice_get graph.calls filter ≡ Some call
  pub pads : Pads
  pub are_pads : slice_get graph.pads filter ≡ Some pads
  pub side : Side
  pub more : length (kinds side pads) < length (labels side call)

-- an unlabelled output pad of the filter before it in its chain finds no unlabelled input pad
pub record LacksInput (graph : Graph) (filter : ℕ) : Type 0 where
  pub giver : Place
  pub pad : ℕ
  pub neighbours : AreNeighbours graph giver (record { filter = filter; pad = pad })
  pub missing : kind graph In filter pad ≡ None

abbrev pub HasWrongPads : Graph → ℕ → Type 0
HasWrongPads graph filter = HasMoreLabels graph filter ⊎ LacksInput graph filter

-- a pad's label is also on an earlier pad of its side, and is such a label
pub record IsTwice (graph : Graph) (side : Side) (Such : List ℕ → Type 0) (filter : ℕ) : Type 0 where
  pub name : List ℕ
  pub such : Such name
  pub pad : ℕ
  pub has : label graph side filter pad ≡ Some name
  pub earlier : Place
  pub has_too : label graph side earlier.filter earlier.pad ≡ Some name
  pub before : IsBefore earlier (record { filter = filter; pad = pad })

-- some output pad has the label
abbrev pub IsOnOutput : Graph → List ℕ → Type 0
IsOnOutput graph name = (filter pad : ℕ) × (label graph Out filter pad ≡ Some name)

-- the label of an output pad is on an earlier output pad, or that of an input pad is on an earlier input pad and on an
-- output pad
abbrev pub HasLabelTwice : Graph → ℕ → Type 0
HasLabelTwice graph filter = IsTwice graph Out (λ name. Unit {0}) filter ⊎ IsTwice graph In (IsOnOutput graph) filter

-- an input pad's label is on no output pad and names no input file
pub record HasUnknownInput (graph : Graph) (filter : ℕ) : Type 0 where
  pub pad : ℕ
  pub name : List ℕ
  pub is_label : label graph In filter pad ≡ Some name
  pub on_no_output : IsOnNoOutput graph name
  pub names_none : (file : ℕ) (said : Option Media) → SaysFile name file said → ¬ (file < length graph.files)

-- the text joins pads of two kinds
pub record JoinsOther (graph : Graph) (filter : ℕ) : Type 0 where
  pub giver : Place
  pub pad : ℕ
  pub joined : AreJoined graph giver (record { filter = filter; pad = pad })
  pub gives : Media
  pub is_given : kind graph Out giver.filter giver.pad ≡ Some gives
  pub wants : Media
  pub is_wanted : kind graph In filter pad ≡ Some wants
  pub differ : gives ≢ wants

-- a label names a file of another kind than its pad takes, or than the label says
pub record NamesOther (graph : Graph) (filter : ℕ) : Type 0 where
  pub pad : ℕ
  pub file : ℕ
  pub said : Option Media
  pub names : NamesFile graph (record { filter = filter; pad = pad }) file said
  pub gives : Media
  pub is_given : slice_get graph.files file ≡ Some gives
  pub wants : Media
  pub is_wanted : kind graph In filter pad ≡ Some wants
  pub differ : (gives ≢ wants) ⊎ ((other : Media) × (said ≡ Some other) × (gives ≢ other))

abbrev pub HasMismatch : Graph → ℕ → Type 0
HasMismatch graph filter = JoinsOther graph filter ⊎ NamesOther graph filter

-- a filter reaches itself
abbrev pub HasCycle : Graph → ℕ → Type 0
HasCycle graph filter = Reaches (TakesFrom graph) filter filter

-- after these links, the first of these input pads that finds no origin: it is open, and no file of its kind is left
abbrev pub FindsNone : Graph → List Edge → List Place → ℕ → ℕ → Type 0
FindsNone graph before [] filter pad = ⊥
FindsNone graph before (taker ∷ takers) filter pad =
    ((taker.filter ≡ filter) × (taker.pad ≡ pad) × IsOpen graph taker
    × ((wanted : Media) × (kind graph In taker.filter taker.pad ≡ Some wanted) × Never (IsLeft graph before wanted)))
    ⊎ ((origin : Source) × IsOrigin graph before taker origin × FindsNone graph (before ++ link_to taker origin ∷ []) takers filter pad)

-- none of the faults that come before open pads
pub record IsSound (graph : Graph) (outputs : ℕ) : Type 0 where
  pub few : ¬ HasTooMany graph outputs
  pub pads : Never (HasWrongPads graph)
  pub labels : Never (HasLabelTwice graph)
  pub inputs : Never (HasUnknownInput graph)
  pub kinds : Never (HasMismatch graph)

-- the first fault: the first kind that occurs, at the lowest filter, and pad
abbrev pub IsLinkFault : Graph → ℕ → PlanFault → Type 0
IsLinkFault graph outputs TooManyLinks = HasTooMany graph outputs
IsLinkFault graph outputs (PadCount filter) = ¬ HasTooMany graph outputs × IsFirst (HasWrongPads graph) filter
IsLinkFault graph outputs (LabelTwice filter) = ¬ HasTooMany graph outputs × Never (HasWrongPads graph) × IsFirst (HasLabelTwice graph) filter
IsLinkFault graph outputs (UnknownInput filter) = ¬ HasTooMany graph outputs × Never (HasWrongPads graph) × Never (HasLabelTwice graph)
    × IsFirst (HasUnknownInput graph) filter
IsLinkFault graph outputs (MediaMismatch filter) = ¬ HasTooMany graph outputs × Never (HasWrongPads graph) × Never (HasLabelTwice graph)
    × Never (HasUnknownInput graph) × IsFirst (HasMismatch graph) filter
IsLinkFault graph outputs (Cycle filter) = IsSound graph outputs × IsFirst (HasCycle graph) filter
IsLinkFault graph outputs (OpenPad filter pad) = IsSound graph outputs × Never (HasCycle graph) × FindsNone graph [] (pads_on graph In) filter pad
IsLinkFault graph outputs (NoSuchOutput output) = ⊥
IsLinkFault graph outputs (Unmapped filter pad) = ⊥
IsLinkFault graph outputs (WrongKind output) = ⊥

-- the draft of a graph without a fault
pub record IsLinked (graph : Graph) (outputs : ℕ) (draft : DraftPlan) : Type 0 where
  pub sound : IsSound graph outputs
  pub draft_is : IsDraft graph draft

-- as many pads as calls, and numbers of filters, pads and files that fit in 32 bits
pub record IsSmall (graph : Graph) : Type 0 where
  pub each : length graph.pads ≡ length graph.calls
  pub calls : length graph.calls < 4294967296
  pub outs : All (λ (p : Pads). length p.outs < 4294967296) graph.pads
  pub files : length graph.files < 4294967296

-- a small graph has exactly one draft or exactly one fault, always
pub record GraphsLinkInOneWay : Type 0 where
  pub one_draft : (graph : Graph) (outputs : ℕ) (a b : DraftPlan) → IsLinked graph outputs a → IsLinked graph outputs b → a ≡ b
  pub one_fault : (graph : Graph) (outputs : ℕ) (f g : PlanFault) → IsLinkFault graph outputs f → IsLinkFault graph outputs g → f ≡ g
  pub not_both : (graph : Graph) (outputs : ℕ) (draft : DraftPlan) (f : PlanFault) → IsSmall graph → IsLinked graph outputs draft → IsLinkFault graph outputs f → ⊥
  pub one_of_both : (graph : Graph) (outputs : ℕ) → IsSmall graph → ((draft : DraftPlan) × IsLinked graph outputs draft) ⊎ ((f : PlanFault) × IsLinkFault graph outputs f)
