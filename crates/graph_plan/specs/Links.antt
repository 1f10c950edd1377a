-- Links: the origin of each input pad, and the output pads that are left (FFmpeg Filters Documentation, "Filtergraph
-- syntax"; ffmpeg Documentation, "Automatic stream selection").
use Rattle.std.specs.Prelude.{◌≡◌, ◌++◌, ◌⊎◌, ℕ, List, [], ◌∷◌, Option, Some, length}
use Rattle.std.specs.List.{slice_get, Contains}
use Rattle.av_base.specs.declared.formats.Media.{Media}
use Rattle.graph_plan.specs.declared.plan.Edge.{Edge}
use Rattle.graph_plan.specs.declared.plan.Source.{Source}
use Rattle.graph_plan.specs.declared.plan.Source.TheVariants as from
use Rattle.graph_plan.specs.declared.plan.Target.TheVariants as to
use Rattle.graph_plan.specs.declared.plan.OpenOut.{OpenOut}
use Rattle.graph_plan.specs.declared.plan.DraftPlan.{DraftPlan}
use Rattle.graph_plan.specs.declared.places.Place.{Place}
use Rattle.graph_plan.specs.declared.places.Side.TheVariants.{In, Out}
use Rattle.graph_plan.specs.Orders.{IsOrder}
use Rattle.graph_plan.specs.Graphs.{Graph, label, kind, pads_on, AreJoined, NamesFile, IsNamed, IsOpen, TakesFrom}
use Rattle.av_base.specs.First.{IsFirst}

-- ---- origins

-- one of these links begins at the file
abbrev pub IsTaken : List Edge → ℕ → Type 0
IsTaken links file = (link : Edge) × Contains links link × (link.from ≡ from.Input file)

-- a file of this kind that no label names and no link before takes
pub record IsLeft (graph : Graph) (before : List Edge) (wanted : Media) (file : ℕ) : Type 0 where
  pub is_file : slice_get graph.files file ≡ Some wanted
  pub unnamed : ¬ IsNamed graph file
  pub untaken : ¬ IsTaken before file

-- where an input pad takes from, after these links: from the output pad that the text joins to it, from the file that
-- its label names, or, if it is open, from the first file of its kind that is left
abbrev pub IsOrigin : Graph → List Edge → Place → Source → Type 0
IsOrigin graph before taker origin = ((giver : Place) × (origin ≡ from.Filter giver.filter giver.pad) × AreJoined graph giver taker)
    ⊎ (((file : ℕ) × (said : Option Media) × (origin ≡ from.Input file) × NamesFile graph taker file said)
    ⊎ ((wanted : Media) × (file : ℕ) × (origin ≡ from.Input file) × IsOpen graph taker
    × (kind graph In taker.filter taker.pad ≡ Some wanted) × IsFirst (IsLeft graph before wanted) file))

-- the link to an input pad
abbrev pub link_to : Place → Source → Edge
link_to taker origin = record { from = origin; to = to.Filter taker.filter taker.pad }

-- after these links come those to these input pads, each from its origin
abbrev pub AreLinks : Graph → List Edge → List Place → List Edge → Type 0
AreLinks graph before [] [] = Unit {0}
AreLinks graph before [] (link ∷ links) = ⊥
AreLinks graph before (taker ∷ takers) [] = ⊥
AreLinks graph before (taker ∷ takers) (link ∷ links) = ((origin : Source) × (link ≡ link_to taker origin) × IsOrigin graph before taker origin)
    × AreLinks graph (before ++ link ∷ []) takers links

-- ---- output pads that are left

-- the output pads, by filter and number, with their labels and kinds
abbrev pub out_pad : Graph → Place → Media → OpenOut
out_pad graph giver gives = record { filter = giver.filter; pad = giver.pad; label = label graph Out giver.filter giver.pad; media = gives }

-- those of the output pads that the text joins to none
abbrev pub AreLeft : Graph → List Place → List OpenOut → Type 0
AreLeft graph [] [] = Unit {0}
AreLeft graph [] (out ∷ outs) = ⊥
AreLeft graph (giver ∷ givers) outs = (((taker : Place) × AreJoined graph giver taker) × AreLeft graph givers outs)
    ⊎ (((taker : Place) → ¬ AreJoined graph giver taker)
    × ((gives : Media) × (more : List OpenOut) × (kind graph Out giver.filter giver.pad ≡ Some gives) × (outs ≡ out_pad graph giver gives ∷ more) × AreLeft graph givers more))

-- ---- the draft

-- what a draft consists of
pub record IsDraft (graph : Graph) (draft : DraftPlan) : Type 0 where
  pub links : AreLinks graph [] (pads_on graph In) draft.links
  pub order : IsOrder (TakesFrom graph) (length graph.calls) draft.order
  pub opens : AreLeft graph (pads_on graph Out) draft.opens
