-- A plan asks only of links that it has.
use Rattle.std.proofs.Common.{◌≡◌, ◌<◌, ◌++◌, ℕ, Bool, List, [], ◌∷◌, Option, Some, None, length, map, flat_map, filter, refl, sym, ap, subst, inl, inr}
use Rattle.std.specs.List.{range_with_len, enumerate_from, slice_get, Contains}
use Rattle.std.proofs.lemmas.List.Elements.{Contains-append_cases}
use Rattle.std.proofs.lemmas.Option.{slice_get_within}
use Rattle.av_base.specs.declared.formats.Format.{Format}
use Rattle.av_base.specs.declared.sets.FormatSet.{FormatSet}
use Rattle.graph_formats.specs.declared.request.Relation.{Relation}
use Rattle.graph_formats.specs.declared.request.Relation.TheVariants.{Same}
use Rattle.graph_formats.specs.declared.request.Wish.{Wish}
use Rattle.graph_formats.specs.Assignments.{first_of, second_of, AreWishesBelow, AreRelationsBelow}
use Rattle.graph_plan.specs.declared.plan.Edge.{Edge}
use Rattle.graph_plan.specs.declared.plan.Source.{Source}
use Rattle.graph_plan.specs.declared.plan.Source.TheVariants as from
use Rattle.graph_plan.specs.declared.plan.Target.{Target}
use Rattle.graph_plan.specs.declared.plan.Target.TheVariants as to
use Rattle.node_core.specs.Shaping.{pads_of}
use Rattle.node_core.specs.Wishing.{set_of, formats_of}
use Rattle.node_core.specs.declared.kind.Kind.{Kind}
use Rattle.node_core.proofs.Members.{in_map, in_filter, in_flat_map, enumerated}
use Rattle.av_base.proofs.Lists.{contained_cases, none_contained}
use Rattle.plan_formats.specs.Wished.{is_target, is_source, links_where, pad_links, source_wish, target_wish, end_wishes, filter_wishes, plan_wishes, plan_relations}

-- ---- numbers of links

pub number_of : (test : Edge → Bool) (links : List Edge) (n : ℕ) → Contains (links_where test links) n → n < length links
number_of test links n here =
    let at = in_map (λ (p : ℕ × Edge). p.0) (filter (λ (p : ℕ × Edge). test p.1) (enumerate_from 0 links)) n here in
    let kept = in_filter (λ (p : ℕ × Edge). test p.1) (enumerate_from 0 links) at.0 at.1 in
    let low : at.0.0 < length links = slice_get_within links at.0.0 at.0.1 (enumerated links at.0 kept.0) in
    let P : ℕ → Type 0 = λ k. k < length links in
    subst P at.2 low

ins_below : (links : List Edge) (f : ℕ) (kind : Kind) (n : ℕ) → Contains (pad_links links f kind).ins n → n < length links
ins_below links f kind n here =
    let pad = in_flat_map (λ (pad : ℕ). links_where (λ link. is_target f pad link.to) links) (range_with_len 0 (length (pads_of kind).ins)) n here in
    number_of (λ link. is_target f pad.0 link.to) links n pad.2

outs_below : (links : List Edge) (f : ℕ) (kind : Kind) (n : ℕ) → Contains (pad_links links f kind).outs n → n < length links
outs_below links f kind n here =
    let pad = in_flat_map (λ (pad : ℕ). links_where (λ link. is_source f pad link.from) links) (range_with_len 0 (length (pads_of kind).outs)) n here in
    number_of (λ link. is_source f pad.0 link.from) links n pad.2

-- ---- wishes

only_link : (wish only : Wish) → Contains (only ∷ []) wish → wish.link ≡ only.link
only_link wish only here = elim (contained_cases only [] wish here) [
  | inl same ↦ ap (λ (w : Wish). w.link) (sym same)
  | inr later ↦ absurd (none_contained wish later)
]

source_link : (inputs : List Format) (link : ℕ) (source : Source) (wish : Wish) → Contains (source_wish inputs link source) wish → wish.link ≡ link
source_link inputs link (from.Filter f p) wish here = absurd (none_contained wish here)
source_link inputs link (from.Input i) wish here = by (slice_get inputs i) refl where
  by : (o : Option Format) → slice_get inputs i ≡ o → wish.link ≡ link
  by None e = absurd (none_contained wish (rw e at here))
  by (Some format) e = only_link wish (record { link = link; set = set_of (format ∷ []) }) (rw e at here)

target_link : (outputs : List FormatSet) (link : ℕ) (target : Target) (wish : Wish) → Contains (target_wish outputs link target) wish → wish.link ≡ link
target_link outputs link (to.Filter f p) wish here = absurd (none_contained wish here)
target_link outputs link (to.Output o) wish here = by (slice_get outputs o) refl where
  by : (s : Option FormatSet) → slice_get outputs o ≡ s → wish.link ≡ link
  by None e = absurd (none_contained wish (rw e at here))
  by (Some set) e = only_link wish (record { link = link; set = set }) (rw e at here)

end_link : (inputs : List Format) (outputs : List FormatSet) (p : ℕ × Edge) (wish : Wish) → Contains (end_wishes inputs outputs p) wish → wish.link ≡ p.0
end_link inputs outputs p wish here = elim (Contains-append_cases (source_wish inputs p.0 p.1.from) (target_wish outputs p.0 p.1.to) wish here) [
  | inl begin ↦ source_link inputs p.0 p.1.from wish begin
  | inr end ↦ target_link outputs p.0 p.1.to wish end
]

wish_below : (links : List Edge) (p : ℕ × Kind) (wish : Wish) → Contains (filter_wishes links p).wishes wish → wish.link < length links
wish_below links p wish here =
    let pads = pad_links links p.0 p.1 in
    let at = in_map (λ (link : ℕ). let w : Wish = record { link = link; set = formats_of p.1 } in w) (pads.ins ++ pads.outs) wish here in
    let low : at.0 < length links = elim (Contains-append_cases pads.ins pads.outs at.0 at.1) [
      | inl into ↦ ins_below links p.0 p.1 at.0 into
      | inr out ↦ outs_below links p.0 p.1 at.0 out
    ] in
    let P : ℕ → Type 0 = λ k. k < length links in
    subst P (ap (λ (w : Wish). w.link) at.2) low

pub wishes_below : (links : List Edge) (kinds : List Kind) (inputs : List Format) (outputs : List FormatSet) → AreWishesBelow (length links) (plan_wishes links kinds inputs outputs)
wishes_below links kinds inputs outputs wish here =
    elim (Contains-append_cases (flat_map (end_wishes inputs outputs) (enumerate_from 0 links)) (flat_map (λ (p : ℕ × Kind). (filter_wishes links p).wishes) (enumerate_from 0 kinds)) wish here) [
      | inl of_file ↦ (
          let at = in_flat_map (end_wishes inputs outputs) (enumerate_from 0 links) wish of_file in
          let low = slice_get_within links at.0.0 at.0.1 (enumerated links at.0 at.1) in
          let P : ℕ → Type 0 = λ k. k < length links in
          subst P (sym (end_link inputs outputs at.0 wish at.2)) low
          )
      | inr of_filter ↦ (
          let at = in_flat_map (λ (p : ℕ × Kind). (filter_wishes links p).wishes) (enumerate_from 0 kinds) wish of_filter in
          wish_below links at.0 wish at.2
          )
    ]

-- ---- relations

pub relations_below : (links : List Edge) (kinds : List Kind) → AreRelationsBelow (length links) (plan_relations links kinds)
relations_below links kinds relation here =
    let at = in_flat_map (λ (p : ℕ × Kind). (filter_wishes links p).relations) (enumerate_from 0 kinds) relation here in
    let pads = pad_links links at.0.0 at.0.1 in
    let into = in_flat_map (λ (a : ℕ). map (λ (b : ℕ). Same a b) pads.outs) pads.ins relation at.2 in
    let out = in_map (λ (b : ℕ). Same into.0 b) pads.outs relation into.2 in
    let P : Relation → Type 0 = λ r. (first_of r < length links) × (second_of r < length links) in
    subst P out.2 (ins_below links at.0.0 at.0.1 into.0 into.1, outs_below links at.0.0 at.0.1 out.0 out.1)
