-- On a path each link has the format of the input's pictures, which every filter takes and the output can hold.
use Rattle.std.specs.Prelude.{◌≡◌, ◌<◌, ℕ, List, [], ◌∷◌, Some, length, slice_get}
use Rattle.std.specs.List.{Contains}
use Rattle.av_base.specs.declared.formats.Format.{Format}
use Rattle.av_base.specs.declared.sets.FormatSet.{FormatSet}
use Rattle.av_base.specs.FormatSets.{Has}
use Rattle.graph_formats.specs.Assignments.{AreBelow, IsAssignment}
use Rattle.graph_plan.specs.declared.plan.Edge.{Edge}
use Rattle.graph_plan.specs.declared.plan.Source.TheVariants as from
use Rattle.graph_plan.specs.Paths.{links_from}
use Rattle.node_core.specs.Shaping.{Takes}
use Rattle.node_core.specs.declared.kind.Kind.{Kind}
use Rattle.plan_formats.specs.Wished.{plan_wishes, plan_relations}

-- the links are those of a path, and maybe others
abbrev pub HavePath : List Edge → List ℕ → Type 0
HavePath links order = (link : Edge) → Contains (links_from (from.Input 0) order) link → Contains links link

-- each filter of the order is one of these
abbrev pub AreKinds : List ℕ → List Kind → Type 0
AreKinds order kinds = (filter : ℕ) → Contains order filter → filter < length kinds

-- what an assignment says of the ends and of the filters of a path
pub record IsPathFormat (kinds : List Kind) (order : List ℕ) (format : Format) (output : FormatSet) : Type 0 where
  pub taken : (filter : ℕ) (kind : Kind) → Contains order filter → slice_get kinds filter ≡ Some kind → Takes kind format
  pub held : Has output format

pub record PlansAskOfFormats : Type 0 where
  pub below : (links : List Edge) (kinds : List Kind) (inputs : List Format) (outputs : List FormatSet) → AreBelow (length links) (plan_wishes links kinds inputs outputs) (plan_relations links kinds)
  pub path : (links : List Edge) (kinds : List Kind) (order : List ℕ) (format : Format) (output : FormatSet) (formats : List Format)
      → HavePath links order → AreKinds order kinds → IsAssignment (length links) (plan_wishes links kinds (format ∷ []) (output ∷ [])) (plan_relations links kinds) formats
      → IsPathFormat kinds order format output
