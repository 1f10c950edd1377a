-- On a path each link has the format of the input's pictures.
use Rattle.std.proofs.Common.{◌≡◌, ◌==◌, ◌&&◌, ◌++◌, ℕ, Bool, true, nat_eq, List, [], ◌∷◌, Some, length, map, flat_map, filter, refl, sym, ◌∙◌, ap, subst, inl, inr, eq-eqb, arith}
use Rattle.std.specs.List.{enumerate_from, slice_get, Contains}
use Rattle.std.proofs.lemmas.List.Elements.{Contains-append_left, Contains-append_right}
use Rattle.std.proofs.lemmas.Option.{same_Some, slice_get_within}
use Rattle.av_base.specs.declared.formats.Format.{Format}
use Rattle.av_base.specs.declared.sets.FormatSet.{FormatSet}
use Rattle.av_base.specs.FormatSets.{Has}
use Rattle.av_base.proofs.Lists.{contained, contained_cases, none_contained, get_within, place_of}
use Rattle.graph_formats.specs.declared.request.Relation.TheVariants.{Same}
use Rattle.graph_formats.specs.declared.request.Wish.{Wish}
use Rattle.graph_formats.specs.Assignments.{IsAssignment}
use Rattle.graph_plan.specs.declared.plan.Edge.{Edge}
use Rattle.graph_plan.specs.declared.plan.Source.{Source}
use Rattle.graph_plan.specs.declared.plan.Source.TheVariants as from
use Rattle.graph_plan.specs.declared.plan.Target.{Target}
use Rattle.graph_plan.specs.declared.plan.Target.TheVariants as to
use Rattle.graph_plan.specs.Paths.{links_from}
use Rattle.node_core.specs.Shaping.{Takes}
use Rattle.node_core.specs.Wishing.{set_of, formats_of}
use Rattle.node_core.specs.declared.kind.Kind.{Kind}
use Rattle.node_core.proofs.Members.{map_in, filter_in, flat_map_in, enumerates}
use Rattle.node_core.proofs.WishLemmas.{in_set_of, has_format}
use Rattle.plan_formats.specs.Wished.{is_target, is_source, links_where, pad_links, source_wish, target_wish, end_wishes, filter_wishes, plan_wishes, plan_relations}
use Rattle.plan_formats.specs.PathFormats.{HavePath, AreKinds, IsPathFormat, PlansAskOfFormats}
use Rattle.plan_formats.proofs.BelowLemmas.{wishes_below, relations_below}

-- a link that passes the test is among those that do
number_in : (test : Edge → Bool) (links : List Edge) (n : ℕ) (link : Edge) → slice_get links n ≡ Some link → test link ≡ true → Contains (links_where test links) n
number_in test links n link at passes =
    let here : ℕ × Edge = (n, link) in
    map_in (λ (p : ℕ × Edge). p.0) (filter (λ (p : ℕ × Edge). test p.1) (enumerate_from 0 links)) here
    (filter_in (λ (p : ℕ × Edge). test p.1) (enumerate_from 0 links) here (enumerates links n link at) passes)

-- the first pad of a filter is itself
same_pad : (filter : ℕ) → (filter == filter && 0 == 0) ≡ true
same_pad filter = let same : nat_eq filter filter ≡ true = eq-eqb filter filter refl in rw same refl

into_filter : (links : List Edge) (filter : ℕ) (kind : Kind) (n : ℕ) (link : Edge) → slice_get links n ≡ Some link → link.to ≡ to.Filter filter 0 → Contains (pad_links links filter kind).ins n
into_filter links filter kind n link at is =
    let passes : is_target filter 0 link.to ≡ true = ap (is_target filter 0) is ∙ same_pad filter in
    Contains-append_left (links_where (λ edge. is_target filter 0 edge.to) links) [] n (number_in (λ edge. is_target filter 0 edge.to) links n link at passes)

out_of_filter : (links : List Edge) (filter : ℕ) (kind : Kind) (n : ℕ) (link : Edge) → slice_get links n ≡ Some link → link.from ≡ from.Filter filter 0 → Contains (pad_links links filter kind).outs n
out_of_filter links filter kind n link at is =
    let passes : is_source filter 0 link.from ≡ true = ap (is_source filter 0) is ∙ same_pad filter in
    Contains-append_left (links_where (λ edge. is_source filter 0 edge.from) links) [] n (number_in (λ edge. is_source filter 0 edge.from) links n link at passes)

module _ (links : List Edge) (kinds : List Kind) (format : Format) (output : FormatSet) (formats : List Format)
    (given : IsAssignment (length links) (plan_wishes links kinds (format ∷ []) (output ∷ [])) (plan_relations links kinds) formats) where
  -- a wish of a file
  file_wish : (n : ℕ) (link : Edge) (wish : Wish) → slice_get links n ≡ Some link → Contains (end_wishes (format ∷ []) (output ∷ []) (n, link)) wish → Contains (plan_wishes links kinds (format ∷ []) (output ∷ [])) wish
  file_wish n link wish at here =
      Contains-append_left (flat_map (end_wishes (format ∷ []) (output ∷ [])) (enumerate_from 0 links)) (flat_map (λ (p : ℕ × Kind). (filter_wishes links p).wishes) (enumerate_from 0 kinds)) wish
      (flat_map_in (end_wishes (format ∷ []) (output ∷ [])) (enumerate_from 0 links) (n, link) wish (enumerates links n link at) here)

  -- all links from this source have the format
  abbrev AllHave : Source → Type 0
  AllHave source = (n : ℕ) (link : Edge) → slice_get links n ≡ Some link → link.from ≡ source → slice_get formats n ≡ Some format

  -- the links from the input
  from_input : (n : ℕ) (link : Edge) → slice_get links n ≡ Some link → link.from ≡ from.Input 0 → slice_get formats n ≡ Some format
  from_input n link at is =
      let each = given.each in
      let low = slice_get_within links n link at in
      let found = get_within formats n (omega arith) in
      let wish : Wish = record { link = n; set = set_of (format ∷ []) } in
      let P : Source → Type 0 = λ s. Contains (source_wish (format ∷ []) n s) wish in
      let begin : Contains (source_wish (format ∷ []) n link.from) wish = subst P (sym is) (contained (wish ∷ []) 0 wish refl) in
      let asked = file_wish n link wish at (Contains-append_left (source_wish (format ∷ []) n link.from) (target_wish (output ∷ []) n link.to) wish begin) in
      let only = (in_set_of (format ∷ []) found.0).0 (given.wished n found.0 found.1 (set_of (format ∷ [])) asked) in
      elim (contained_cases format [] found.0 only) [
        | inl same ↦ found.1 ∙ ap Some (sym same)
        | inr none ↦ absurd (none_contained found.0 none)
      ]

  -- the link to the output
  to_output : (n : ℕ) (link : Edge) → slice_get links n ≡ Some link → link.to ≡ to.Output 0 → slice_get formats n ≡ Some format → Has output format
  to_output n link at is has =
      let wish : Wish = record { link = n; set = output } in
      let P : Target → Type 0 = λ t. Contains (target_wish (output ∷ []) n t) wish in
      let end : Contains (target_wish (output ∷ []) n link.to) wish = subst P (sym is) (contained (wish ∷ []) 0 wish refl) in
      let asked = file_wish n link wish at (Contains-append_right (source_wish (format ∷ []) n link.from) (target_wish (output ∷ []) n link.to) wish end) in
      given.wished n format has output asked

  -- a filter takes the format of a link to it
  filter_takes : (filter : ℕ) (kind : Kind) (n : ℕ) (link : Edge) → slice_get kinds filter ≡ Some kind → slice_get links n ≡ Some link → link.to ≡ to.Filter filter 0 → slice_get formats n ≡ Some format → Takes kind format
  filter_takes filter kind n link of at is has =
      let pads = pad_links links filter kind in
      let wish : Wish = record { link = n; set = formats_of kind } in
      let asks : Contains (filter_wishes links (filter, kind)).wishes wish =
      map_in (λ (k : ℕ). let w : Wish = record { link = k; set = formats_of kind } in w) (pads.ins ++ pads.outs) n (Contains-append_left pads.ins pads.outs n (into_filter links filter kind n link at is)) in
      let asked = Contains-append_right (flat_map (end_wishes (format ∷ []) (output ∷ [])) (enumerate_from 0 links)) (flat_map (λ (p : ℕ × Kind). (filter_wishes links p).wishes) (enumerate_from 0 kinds)) wish
      (flat_map_in (λ (p : ℕ × Kind). (filter_wishes links p).wishes) (enumerate_from 0 kinds) (filter, kind) wish (enumerates kinds filter kind of) asks) in
      has_format kind format (given.wished n format has (formats_of kind) asked)

  -- the links from a filter have the format of a link to it
  passes_on : (filter : ℕ) (kind : Kind) (n : ℕ) (link : Edge) → slice_get kinds filter ≡ Some kind → slice_get links n ≡ Some link → link.to ≡ to.Filter filter 0 → slice_get formats n ≡ Some format → AllHave (from.Filter filter 0)
  passes_on filter kind n link of at is has m next there begin =
      let pads = pad_links links filter kind in
      let into = into_filter links filter kind n link at is in
      let out = out_of_filter links filter kind m next there begin in
      let asks : Contains (filter_wishes links (filter, kind)).relations (Same n m) =
      flat_map_in (λ (a : ℕ). map (λ (b : ℕ). Same a b) pads.outs) pads.ins n (Same n m) into (map_in (λ (b : ℕ). Same n b) pads.outs m out) in
      let asked = flat_map_in (λ (p : ℕ × Kind). (filter_wishes links p).relations) (enumerate_from 0 kinds) (filter, kind) (Same n m) (enumerates kinds filter kind of) asks in
      let meets = given.met (Same n m) asked in
      let first : format ≡ meets.first = same_Some format meets.first (sym has ∙ meets.is_first) in
      let same : meets.first ≡ meets.second = meets.relates in
      meets.is_second ∙ ap Some (sym (first ∙ same))

  along : (source : Source) (order : List ℕ) → ((link : Edge) → Contains (links_from source order) link → Contains links link) → AreKinds order kinds → AllHave source → IsPathFormat kinds order format output
  along source [] path known all =
      let link : Edge = record { from = source; to = to.Output 0 } in
      let place = place_of links link (path link (contained (link ∷ []) 0 link refl)) in
      record { taken = λ filter kind here. absurd (none_contained filter here); held = to_output place.0 link place.2 refl (all place.0 link place.2 refl) }
  along source (first ∷ order) path known all =
      let link : Edge = record { from = source; to = to.Filter first 0 } in
      let later = links_from (from.Filter first 0) order in
      let place = place_of links link (path link (contained (link ∷ later) 0 link refl)) in
      let has = all place.0 link place.2 refl in
      let kind = get_within kinds first (known first (contained (first ∷ order) 0 first refl)) in
      let rest = along (from.Filter first 0) order (λ next here. path next (Contains-append_right (link ∷ []) later next here)) (λ filter here. known filter (Contains-append_right (first ∷ []) order filter here))
      (passes_on first kind.0 place.0 link kind.1 place.2 refl has) in
      record {
        taken = λ filter of here is. elim (contained_cases first order filter here) [
          | inl same ↦ filter_takes first of place.0 link (ap (slice_get kinds) same ∙ is) place.2 refl has
          | inr more ↦ rest.taken filter of more is
        ];
        held = rest.held;
      }

  on_path : (order : List ℕ) → HavePath links order → AreKinds order kinds → IsPathFormat kinds order format output
  on_path order path known = along (from.Input 0) order path known from_input

pub plans_ask : PlansAskOfFormats
plans_ask = record {
  below = λ links kinds inputs outputs. record { wishes_below = wishes_below links kinds inputs outputs; relations_below = relations_below links kinds };
  path = λ links kinds order format output formats path known given. on_path links kinds format output formats given order path known;
}
