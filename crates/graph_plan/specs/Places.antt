-- What the steps of a binding ensure.
use Rattle.std.specs.Prelude.{◌≡◌, ◌≢◌, ◌<◌, ◌≤◌, ◌↔◌, ℕ, Bool, List, Option, Some, length, bytes_eq, MatchOption}
use Rattle.std.specs.HashMap.{get_by}
use Rattle.graph_plan.specs.declared.called.PadTable.{PadTable}
use Rattle.av_base.specs.First.{IsFirst}
use Rattle.graph_plan.specs.Arranging.{IsMarked}
use Rattle.std.specs.List.{slice_get, Contains}
use Rattle.graph_plan.specs.declared.plan.Edge.{Edge}
use Rattle.graph_plan.specs.declared.plan.OpenOut.{OpenOut}
use Rattle.graph_plan.specs.declared.plan.OutputFile.{OutputFile}
use Rattle.graph_plan.specs.Bindings.{Name, Label, Number, Takes, FindsNone, link_to_output}

-- the places of the pads that the first files take, each of which finds one
pub record AreFound (opens : List OpenOut) (files : List OutputFile) (places : List ℕ) : Type 0 where
  pub within : length places ≤ length files
  pub takes : (k o : ℕ) → slice_get places k ≡ Some o → Takes opens files k o
  pub finds : (k : ℕ) → k < length places → ¬ FindsNone opens files k

-- a place that isn't among these
abbrev pub IsLeft : List ℕ → ℕ → ℕ → Type 0
IsLeft places count o = (o < count) × ¬ Contains places o

-- the place that a table of pads has for a name
abbrev pub pad_called : PadTable → Name → Option ℕ
pad_called table (Label label) = get_by (λ k. bytes_eq label k.now) table.labelled
pad_called table (Number number) = slice_get table.numbered.items number

-- a table has, for each of these names, the place of the first that is called so, and no other names
abbrev pub AreCalled : List Name → PadTable → Type 0
AreCalled names table = (name : Name) → MatchOption (pad_called table name)
    ((o : ℕ) → slice_get names o ≢ Some name)
    (IsFirst (λ o. slice_get names o ≡ Some name))

-- as many marks as given, of which those at these places are set
pub record MarksThese (count : ℕ) (places : List ℕ) (marks : List Bool) : Type 0 where
  pub each : length marks ≡ count
  pub marked : (o : ℕ) → IsMarked marks o ↔ Contains places o

-- each link is from the pad at its place to its output
pub record AreLinks (opens : List OpenOut) (places : List ℕ) (links : List Edge) : Type 0 where
  pub are : (k : ℕ) (link : Edge) → slice_get links k ≡ Some link → (o : ℕ) × (slice_get places k ≡ Some o) × ((p : OpenOut) × (slice_get opens o ≡ Some p) × (link ≡ link_to_output p k))
