-- What a plan asks of the formats of its links: what its filters ask, and what its files do.
use Rattle.std.specs.Prelude.{◌==◌, ◌&&◌, ℕ, List, [], ◌∷◌, ◌++◌, Bool, false, length, map, filter, flat_map}
use Rattle.std.specs.List.{range_with_len, enumerate_from}
use Rattle.std.specs.Prelude.{Option, Some, None, slice_get}
use Rattle.av_base.specs.declared.formats.Format.{Format}
use Rattle.av_base.specs.declared.sets.FormatSet.{FormatSet}
use Rattle.graph_formats.specs.declared.request.Relation.{Relation}
use Rattle.graph_formats.specs.declared.request.Wish.{Wish}
use Rattle.graph_plan.specs.declared.plan.Edge.{Edge}
use Rattle.graph_plan.specs.declared.plan.Source.{Source}
use Rattle.graph_plan.specs.declared.plan.Source.TheVariants as from
use Rattle.graph_plan.specs.declared.plan.Target.{Target}
use Rattle.graph_plan.specs.declared.plan.Target.TheVariants as to
use Rattle.node_core.specs.Shaping.{pads_of}
use Rattle.node_core.specs.Wishing.{set_of, wishes_of}
use Rattle.node_core.specs.declared.kind.Kind.{Kind}
use Rattle.node_core.specs.declared.wishes.PadLinks.{PadLinks}
use Rattle.node_core.specs.declared.wishes.Wishes.{Wishes}

-- ---- the links of a filter

-- the target is this input pad
abbrev pub is_target : ℕ → ℕ → Target → Bool
is_target filter pad (to.Filter f p) = f == filter && p == pad
is_target filter pad (to.Output o) = false

-- the source is this output pad
abbrev pub is_source : ℕ → ℕ → Source → Bool
is_source filter pad (from.Filter f p) = f == filter && p == pad
is_source filter pad (from.Input i) = false

-- the numbers of the links that pass the test
abbrev pub links_where : (Edge → Bool) → List Edge → List ℕ
links_where test links = map (λ (p : ℕ × Edge). p.0) (filter (λ (p : ℕ × Edge). test p.1) (enumerate_from 0 links))

-- the links to each of a filter's input pads, and those from each of its output pads
abbrev pub pad_links : List Edge → ℕ → Kind → PadLinks
pad_links links f kind = record {
  ins = flat_map (λ pad. links_where (λ link. is_target f pad link.to) links) (range_with_len 0 (length (pads_of kind).ins));
  outs = flat_map (λ pad. links_where (λ link. is_source f pad link.from) links) (range_with_len 0 (length (pads_of kind).outs));
}

-- ---- wishes and relations

-- what the file at the beginning of a link wishes: the format of its pictures
abbrev pub source_wish : List Format → ℕ → Source → List Wish
source_wish inputs link (from.Filter f p) = []
source_wish inputs link (from.Input i) = wish_in link (slice_get inputs i) where
  wish_in : ℕ → Option Format → List Wish
  wish_in link None = []
  wish_in link (Some format) = (record { link = link; set = set_of (format ∷ []) }) ∷ []

-- what the file at the end of a link wishes: one of the formats that it can hold
abbrev pub target_wish : List FormatSet → ℕ → Target → List Wish
target_wish outputs link (to.Filter f p) = []
target_wish outputs link (to.Output o) = wish_in link (slice_get outputs o) where
  wish_in : ℕ → Option FormatSet → List Wish
  wish_in link None = []
  wish_in link (Some set) = (record { link = link; set = set }) ∷ []

abbrev pub end_wishes : List Format → List FormatSet → ℕ × Edge → List Wish
end_wishes inputs outputs p = source_wish inputs p.0 p.1.from ++ target_wish outputs p.0 p.1.to

-- what a filter asks of its links
abbrev pub filter_wishes : List Edge → ℕ × Kind → Wishes
filter_wishes links p = wishes_of p.1 (pad_links links p.0 p.1)

-- the wishes of the files and of the filters
abbrev pub plan_wishes : List Edge → List Kind → List Format → List FormatSet → List Wish
plan_wishes links kinds inputs outputs =
    flat_map (end_wishes inputs outputs) (enumerate_from 0 links) ++ flat_map (λ p. (filter_wishes links p).wishes) (enumerate_from 0 kinds)

-- the relations of the filters
abbrev pub plan_relations : List Edge → List Kind → List Relation
plan_relations links kinds = flat_map (λ p. (filter_wishes links p).relations) (enumerate_from 0 kinds)
