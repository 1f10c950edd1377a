-- Graphs: their labels and pads by filter and number, and which pads the text joins (FFmpeg Filters Documentation,
-- "Filtergraph syntax").
use Rattle.std.specs.Prelude.{◌≡◌, ◌<◌, ◌+◌, ◌++◌, ◌⊎◌, ℕ, zero, suc, List, [], ◌∷◌, Option, Some, None, length}
use Rattle.std.specs.List.{slice_get}
use Rattle.av_base.specs.declared.formats.Media.{Media}
use Rattle.av_base.specs.declared.formats.Media.TheVariants as media
use Rattle.av_text.specs.Numbers.{IsNumber}
use Rattle.graph_text.specs.declared.graph.FilterCall.{FilterCall}
use Rattle.graph_plan.specs.declared.plan.Pads.{Pads}
use Rattle.graph_plan.specs.declared.places.Place.{Place}
use Rattle.graph_plan.specs.declared.places.Side.{Side}
use Rattle.graph_plan.specs.declared.places.Side.TheVariants.{In, Out}

-- the calls of a text, the pads of each call's filter, and what the input files give
pub record Graph : Type 0 where
  pub calls : List FilterCall
  pub pads : List Pads
  pub files : List Media

-- ---- places

-- an item of the list that belongs to one of these
abbrev pub item_of : {X Y : Type 0} → (X → List Y) → Option X → ℕ → Option Y
item_of list None number = None
item_of list (Some x) number = slice_get (list x) number

-- the item of this number, of the list that belongs to a filter
abbrev pub item : {X Y : Type 0} → (X → List Y) → List X → ℕ → ℕ → Option Y
item list xs filter number = item_of list (slice_get xs filter) number

-- places of a filter, from a number on, as many as given
abbrev pub places_of : ℕ → ℕ → ℕ → List Place
places_of filter pad zero = []
places_of filter pad (suc count) = (record { filter = filter; pad = pad }) ∷ places_of filter (pad + 1) count

-- the places of all filters, from a filter on: by filter and number
abbrev pub places : {X : Type 0} → (X → ℕ) → ℕ → List X → List Place
places count filter [] = []
places count filter (x ∷ xs) = places_of filter 0 (count x) ++ places count (filter + 1) xs

-- the one place comes before the other
abbrev pub IsBefore : Place → Place → Type 0
IsBefore a b = (a.filter < b.filter) ⊎ ((a.filter ≡ b.filter) × (a.pad < b.pad))

-- ---- labels and pads

-- the labels of a call: those before the filter's name, or those after it
abbrev pub labels : Side → FilterCall → List (List ℕ)
labels In call = call.ins
labels Out call = call.outs

-- what a filter's pads take, or give
abbrev pub kinds : Side → Pads → List Media
kinds In pads = pads.ins
kinds Out pads = pads.outs

-- the label of a pad, if it has one: labels name a filter's first pads, in order
abbrev pub label : Graph → Side → ℕ → ℕ → Option (List ℕ)
label graph side filter pad = item (labels side) graph.calls filter pad

-- what a pad takes, or gives, if it is there
abbrev pub kind : Graph → Side → ℕ → ℕ → Option Media
kind graph side filter pad = item (kinds side) graph.pads filter pad

-- all pads of a side, by filter and number
abbrev pub pads_on : Graph → Side → List Place
pads_on graph side = places (λ (p : Pads). length (kinds side p)) 0 graph.pads

-- ---- what a text joins

-- an output pad and an input pad have one label
abbrev pub ShareLabel : Graph → Place → Place → Type 0
ShareLabel graph giver taker = (name : List ℕ) × (label graph Out giver.filter giver.pad ≡ Some name) × (label graph In taker.filter taker.pad ≡ Some name)

-- in a chain, the unlabelled output pads of a filter and the unlabelled input pads of the next, in order
pub record AreNeighbours (graph : Graph) (giver taker : Place) : Type 0 where
  pub first : FilterCall
  pub is_first : slice_get graph.calls giver.filter ≡ Some first
  pub second : FilterCall
  pub is_second : slice_get graph.calls taker.filter ≡ Some second
  pub next : taker.filter ≡ giver.filter + 1
  pub chain : first.chain ≡ second.chain
  pub nth : ℕ
  pub giver_is : giver.pad ≡ length first.outs + nth
  pub taker_is : taker.pad ≡ length second.ins + nth
  pub gives : Media
  pub is_there : kind graph Out giver.filter giver.pad ≡ Some gives

-- the text joins an output pad to an input pad
abbrev pub AreJoined : Graph → Place → Place → Type 0
AreJoined graph giver taker = ShareLabel graph giver taker ⊎ AreNeighbours graph giver taker

-- a filter takes from another
abbrev pub TakesFrom : Graph → ℕ → ℕ → Type 0
TakesFrom graph giver taker = (out_pad in_pad : ℕ) × AreJoined graph (record { filter = giver; pad = out_pad }) (record { filter = taker; pad = in_pad })

-- ---- labels of input files

-- the text after the number of a file: empty, or the kind that the file is to give
pub data SaysKind : List ℕ → Option Media → Type 0 where
  plain : SaysKind [] None
  video : SaysKind (58 ∷ 118 ∷ []) (Some media.Video)
  first_video : SaysKind (58 ∷ 118 ∷ 58 ∷ 48 ∷ []) (Some media.Video)
  audio : SaysKind (58 ∷ 97 ∷ []) (Some media.Audio)
  first_audio : SaysKind (58 ∷ 97 ∷ 58 ∷ 48 ∷ []) (Some media.Audio)

-- `N`, `N:v`, `N:v:0`, `N:a` or `N:a:0`, with N of 1 to 4 digits
pub record SaysFile (name : List ℕ) (file : ℕ) (said : Option Media) : Type 0 where
  pub digits : List ℕ
  pub suffix : List ℕ
  pub name_is : name ≡ digits ++ suffix
  pub number : IsNumber 1 4 digits file
  pub kind_said : SaysKind suffix said

-- no output pad has this label
abbrev pub IsOnNoOutput : Graph → List ℕ → Type 0
IsOnNoOutput graph name = (filter pad : ℕ) → ¬ (label graph Out filter pad ≡ Some name)

-- an input pad's label is on no output pad and names an input file
pub record NamesFile (graph : Graph) (taker : Place) (file : ℕ) (said : Option Media) : Type 0 where
  pub name : List ℕ
  pub is_label : label graph In taker.filter taker.pad ≡ Some name
  pub on_no_output : IsOnNoOutput graph name
  pub says : SaysFile name file said
  pub is_file : file < length graph.files

-- a label names the file
abbrev pub IsNamed : Graph → ℕ → Type 0
IsNamed graph file = (taker : Place) × (said : Option Media) × NamesFile graph taker file said

-- an input pad that has no label and no neighbour
pub record IsOpen (graph : Graph) (taker : Place) : Type 0 where
  pub unlabelled : label graph In taker.filter taker.pad ≡ None
  pub alone : (giver : Place) → ¬ AreNeighbours graph giver taker
