-- What a plan keeps to.
use Rattle.std.specs.Prelude.{◌≡◌, ◌<◌, ℕ, List, Option, Some, length}
use Rattle.std.specs.List.{slice_get, Contains}
use Rattle.av_base.specs.declared.formats.Media.{Media}
use Rattle.graph_plan.specs.declared.plan.Edge.{Edge}
use Rattle.graph_plan.specs.declared.plan.Source.{Source}
use Rattle.graph_plan.specs.declared.plan.Source.TheVariants as from
use Rattle.graph_plan.specs.declared.plan.Target.{Target}
use Rattle.graph_plan.specs.declared.plan.Target.TheVariants as to
use Rattle.graph_plan.specs.declared.plan.OutputFile.{OutputFile}
use Rattle.graph_plan.specs.declared.plan.DraftPlan.{DraftPlan}
use Rattle.graph_plan.specs.declared.plan.Plan.{Plan}
use Rattle.graph_plan.specs.declared.places.Side.TheVariants.{In, Out}
use Rattle.graph_plan.specs.Orders.{Feeds}
use Rattle.graph_plan.specs.Graphs.{Graph, kind}
use Rattle.graph_plan.specs.Bindings.{CannotTake, IsBound}
use Rattle.graph_plan.specs.Refusals.{IsSmall, IsLinked}

-- what is given where a link begins, if that is there
abbrev pub given : Graph → Source → Option Media
given graph (from.Input file) = slice_get graph.files file
given graph (from.Filter filter pad) = kind graph Out filter pad

-- what is there where a link ends, and can take this
abbrev pub CanTake : Graph → List OutputFile → Target → Media → Type 0
CanTake graph files (to.Filter filter pad) gives = kind graph In filter pad ≡ Some gives
CanTake graph files (to.Output output) gives = (file : OutputFile) × (slice_get files output ≡ Some file) × ¬ CannotTake file.ending gives

-- the ends of links are there and agree, each input pad and each output file is the end of one link, and each filter
-- comes once, after those that it takes from
pub record IsLawful (graph : Graph) (files : List OutputFile) (plan : Plan) : Type 0 where
  pub agree : (link : Edge) → Contains plan.links link → (gives : Media) × (given graph link.from ≡ Some gives) × CanTake graph files link.to gives
  pub once : (i j : ℕ) (a b : Edge) → slice_get plan.links i ≡ Some a → slice_get plan.links j ≡ Some b → a.to ≡ b.to → i ≡ j
  pub pads : (filter pad : ℕ) (wants : Media) → kind graph In filter pad ≡ Some wants → (link : Edge) × Contains plan.links link × (link.to ≡ to.Filter filter pad)
  pub outputs : (output : ℕ) → output < length files → (link : Edge) × Contains plan.links link × (link.to ≡ to.Output output)
  pub filters : (filter : ℕ) → filter < length graph.calls → Contains plan.order filter
  pub below : (filter : ℕ) → Contains plan.order filter → filter < length graph.calls
  pub distinct : (i j filter : ℕ) → slice_get plan.order i ≡ Some filter → slice_get plan.order j ≡ Some filter → i ≡ j
  pub after : (giver taker : ℕ) → Feeds plan.links giver taker
      → (i j : ℕ) × (slice_get plan.order i ≡ Some giver) × (slice_get plan.order j ≡ Some taker) × (i < j)

-- a graph's draft, once it is bound, keeps to this
pub record PlansAreLawful : Type 0 where
  pub lawful : (graph : Graph) (outputs : ℕ) (draft : DraftPlan) (files : List OutputFile) (plan : Plan) → IsSmall graph → IsLinked graph outputs draft
      → IsBound draft files plan → IsLawful graph files plan
