-- Plans that are one path: from the only input file through all filters to the only output file.
use Rattle.std.specs.Prelude.{◌≡◌, ◌↔◌, ℕ, List, [], ◌∷◌, length, All}
use Rattle.std.specs.List.{Contains}
use Rattle.graph_plan.specs.declared.plan.Pads.{Pads}
use Rattle.graph_plan.specs.declared.plan.Edge.{Edge}
use Rattle.graph_plan.specs.declared.plan.Source.{Source}
use Rattle.graph_plan.specs.declared.plan.Source.TheVariants as from
use Rattle.graph_plan.specs.declared.plan.Target.TheVariants as to
use Rattle.graph_plan.specs.declared.plan.OutputFile.{OutputFile}
use Rattle.graph_plan.specs.declared.plan.DraftPlan.{DraftPlan}
use Rattle.graph_plan.specs.declared.plan.Plan.{Plan}
use Rattle.graph_plan.specs.Graphs.{Graph}
use Rattle.graph_plan.specs.Bindings.{IsBound}
use Rattle.graph_plan.specs.Refusals.{IsSmall, IsLinked}

-- every filter takes one stream and gives one
abbrev pub AreSingle : List Pads → Type 0
AreSingle pads = All (λ (p : Pads). (length p.ins ≡ 1) × (length p.outs ≡ 1)) pads

-- the links of a path that goes on from a source through these filters to the output
abbrev pub links_from : Source → List ℕ → List Edge
links_from source [] = (record { from = source; to = to.Output 0 }) ∷ []
links_from source (filter ∷ filters) = (record { from = source; to = to.Filter filter 0 }) ∷ links_from (from.Filter filter 0) filters

-- the links of a plan are those of the path from the input through its filters, in their order
abbrev pub IsPath : Plan → Type 0
IsPath plan = (link : Edge) → Contains plan.links link ↔ Contains (links_from (from.Input 0) plan.order) link

-- the plan of a graph of one input, one output and filters that take one stream and give one is a path
abbrev pub PlansArePaths : Type 0
PlansArePaths = (graph : Graph) (draft : DraftPlan) (files : List OutputFile) (plan : Plan) → IsSmall graph → AreSingle graph.pads → length graph.files ≡ 1 → length files ≡ 1
    → IsLinked graph 1 draft → IsBound draft files plan → IsPath plan
