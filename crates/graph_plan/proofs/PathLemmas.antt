-- A plan of filters that take one stream and give one is a path.
use Rattle.std.proofs.Common.{◌≡◌, ◌<◌, ◌+◌, ◌++◌, ◌⊎◌, ◌↔◌, ℕ, zero, suc, List, [], ◌∷◌, Some, length, refl, sym, ◌∙◌, ap, subst, inl, inr, arith, append_assoc}
use Rattle.std.specs.List.{slice_get, Contains}
use Rattle.std.proofs.lemmas.List.Elements.{All-contains, Contains-append_left, Contains-append_right}
use Rattle.std.proofs.lemmas.Option.{same_Some, slice_get_within}
use Rattle.av_base.specs.declared.formats.Media.{Media}
use Rattle.graph_plan.specs.declared.plan.Pads.{Pads}
use Rattle.graph_plan.specs.declared.plan.Edge.{Edge}
use Rattle.graph_plan.specs.declared.plan.Source.{Source}
use Rattle.graph_plan.specs.declared.plan.Source.TheVariants as from
use Rattle.graph_plan.specs.declared.plan.Target.{Target}
use Rattle.graph_plan.specs.declared.plan.Target.TheVariants as to
use Rattle.graph_plan.specs.declared.plan.OpenOut.{OpenOut}
use Rattle.graph_plan.specs.declared.plan.OutputFile.{OutputFile}
use Rattle.graph_plan.specs.declared.plan.DraftPlan.{DraftPlan}
use Rattle.graph_plan.specs.declared.plan.Plan.{Plan}
use Rattle.graph_plan.specs.declared.places.Place.{Place}
use Rattle.graph_plan.specs.declared.places.Side.{Side}
use Rattle.graph_plan.specs.declared.places.Side.TheVariants.{In, Out}
use Rattle.graph_plan.specs.Orders.{Feeds}
use Rattle.graph_plan.specs.Graphs.{Graph, kinds, kind, pads_on, AreJoined}
use Rattle.graph_plan.specs.Links.{link_to, out_pad, AreLeft, IsOrigin}
use Rattle.graph_plan.specs.Refusals.{IsSmall, IsLinked}
use Rattle.graph_plan.specs.Bindings.{Takes, IsBound}
use Rattle.graph_plan.specs.Lawful.{given, CanTake, IsLawful}
use Rattle.graph_plan.specs.Paths.{AreSingle, links_from, IsPath, PlansArePaths}
use Rattle.av_base.proofs.Lists.{get_within, contained, place_of, none_contained, contained_cases, append_get, append_get_right}
use Rattle.av_base.proofs.Arithmetic.{first_or_none}
use Rattle.graph_plan.proofs.GraphLemmas.{item_at, item_is, item_filter, item_places, joined_taker_is_there, one_origin}
use Rattle.graph_plan.proofs.BindLemmas.{takes_same, takes_within}
use Rattle.graph_plan.proofs.BoundLemmas.{takes_or_not}
use Rattle.graph_plan.proofs.LawfulLemmas.{link_at, link_for, plans_are_lawful}

same_edge : (a b : Edge) → a.from ≡ b.from → a.to ≡ b.to → a ≡ b
same_edge a b p q =
    let froms : a ≡ record { from = b.from; to = a.to } = ap (λ (s : Source). let x : Edge = record { from = s; to = a.to } in x) p in
    froms ∙ ap (λ (t : Target). let x : Edge = record { from = b.from; to = t } in x) q

-- ---- the links of a path

-- a link begins at the source, or at one of these filters
abbrev IsFrom : Source → List ℕ → Source → Type 0
IsFrom source filters begin = (begin ≡ source) ⊎ ((k : ℕ) × (giver : ℕ) × (slice_get filters k ≡ Some giver) × (begin ≡ from.Filter giver 0))

-- a link of the path ends here
abbrev Leads : Source → List ℕ → Target → Type 0
Leads source filters target = (link : Edge) × Contains (links_from source filters) link × (link.to ≡ target) × IsFrom source filters link.from

leads_more : (source : Source) (filter : ℕ) (filters : List ℕ) (target : Target) → Leads (from.Filter filter 0) filters target → Leads source (filter ∷ filters) target
leads_more source filter filters target leads = (
  leads.0,
  Contains-append_right ((record { from = source; to = to.Filter filter 0 }) ∷ []) (links_from (from.Filter filter 0) filters) leads.0 leads.1,
  leads.2,
  inr (elim leads.3 [ inl first ↦ (0, filter, refl, first) | inr later ↦ (suc later.0, later.1, later.2, later.3) ]),
)

-- a path leads to each of its filters
leads_to_filter : (source : Source) (filters : List ℕ) (k filter : ℕ) → slice_get filters k ≡ Some filter → Leads source filters (to.Filter filter 0)
leads_to_filter source [] k filter e = absurd (cc)
leads_to_filter source (first ∷ filters) zero filter e =
    let link : Edge = record { from = source; to = to.Filter first 0 } in
    (link, contained (link ∷ links_from (from.Filter first 0) filters) 0 link refl, ap (λ (n : ℕ). to.Filter n 0) (same_Some first filter e), inl refl)
leads_to_filter source (first ∷ filters) (suc k) filter e = leads_more source first filters (to.Filter filter 0) (leads_to_filter (from.Filter first 0) filters k filter e)

-- and to the output
leads_to_output : (source : Source) (filters : List ℕ) → Leads source filters (to.Output 0)
leads_to_output source [] =
    let link : Edge = record { from = source; to = to.Output 0 } in
    (link, contained (link ∷ []) 0 link refl, refl, inl refl)
leads_to_output source (first ∷ filters) = leads_more source first filters (to.Output 0) (leads_to_output (from.Filter first 0) filters)

-- ---- links and an order of filters that take one stream and give one

record AreOfSingle (links : List Edge) (order : List ℕ) : Type 0 where
  begin : (link : Edge) → Contains links link → (link.from ≡ from.Input 0) ⊎ ((filter : ℕ) × Contains order filter × (link.from ≡ from.Filter filter 0))
  end : (link : Edge) → Contains links link → (link.to ≡ to.Output 0) ⊎ ((filter : ℕ) × Contains order filter × (link.to ≡ to.Filter filter 0))
  once : (a b : Edge) → Contains links a → Contains links b → a.to ≡ b.to → a ≡ b
  gives : (filter : ℕ) → Contains order filter → (link : Edge) × Contains links link × (link.from ≡ from.Filter filter 0)
  takes : (filter : ℕ) → Contains order filter → (link : Edge) × Contains links link × (link.to ≡ to.Filter filter 0)
  output : (link : Edge) × Contains links link × (link.to ≡ to.Output 0)
  distinct : (i j filter : ℕ) → slice_get order i ≡ Some filter → slice_get order j ≡ Some filter → i ≡ j
  after : (giver taker : ℕ) → Feeds links giver taker → (i j : ℕ) × (slice_get order i ≡ Some giver) × (slice_get order j ≡ Some taker) × (i < j)

module _ (links : List Edge) (order : List ℕ) (are : AreOfSingle links order) where
  is_link : (link : Edge) (begin : Source) (end : Target) → Contains links link → link.from ≡ begin → link.to ≡ end → Contains links (record { from = begin; to = end })
  is_link link begin end here p q = let P : Edge → Type 0 = λ l. Contains links l in subst P (same_edge link (record { from = begin; to = end }) p q) here

  -- where a filter of the order stands
  at_split : (before : List ℕ) (filter : ℕ) (filters : List ℕ) → before ++ filter ∷ filters ≡ order → (k other : ℕ) → slice_get (filter ∷ filters) k ≡ Some other → slice_get order (length before + k) ≡ Some other
  at_split before filter filters e k other at = ap (λ (l : List ℕ). slice_get l (length before + k)) (sym e) ∙ (append_get_right before (filter ∷ filters) k ∙ at)

  -- a filter isn't among those after it
  apart : (before : List ℕ) (filter : ℕ) (filters : List ℕ) → before ++ filter ∷ filters ≡ order → (k : ℕ) → slice_get filters k ≡ Some filter → ⊥
  apart before filter filters e k at =
      let same : length before + 0 ≡ length before + suc k = are.distinct (length before + 0) (length before + suc k) filter (at_split before filter filters e 0 filter refl) (at_split before filter filters e (suc k) filter at) in
      omega arith

  -- what takes from a filter is among those after it
  later : (before : List ℕ) (filter : ℕ) (filters : List ℕ) → before ++ filter ∷ filters ≡ order → (taker : ℕ) → Feeds links filter taker → (k : ℕ) × (slice_get filters k ≡ Some taker)
  later before filter filters e taker feeds =
      let places = are.after filter taker feeds in
      let here : places.0 ≡ length before + 0 = are.distinct places.0 (length before + 0) filter places.2 (at_split before filter filters e 0 filter refl) in
      let less = places.4 in
      elim (append_get before (filter ∷ filters) places.1 taker (ap (λ (l : List ℕ). slice_get l places.1) e ∙ places.3)) [
        | inl early ↦ absurd (let low = slice_get_within before places.1 taker early in omega arith)
        | inr rest ↦ among rest.0 rest.2 (let there = rest.1 in omega arith)
      ]
    where
      among : (k : ℕ) → slice_get (filter ∷ filters) k ≡ Some taker → 0 < k → (j : ℕ) × (slice_get filters j ≡ Some taker)
      among zero at more = absurd (omega arith)
      among (suc k) at more = (k, at)

  of_order : (before : List ℕ) (filter : ℕ) (filters : List ℕ) → before ++ filter ∷ filters ≡ order → Contains order filter
  of_order before filter filters e = contained order (length before + 0) filter (at_split before filter filters e 0 filter refl)

  feeds_by : (link : Edge) (giver taker : ℕ) → Contains links link → link.from ≡ from.Filter giver 0 → link.to ≡ to.Filter taker 0 → Feeds links giver taker
  feeds_by link giver taker here p q = (0, 0, is_link link (from.Filter giver 0) (to.Filter taker 0) here p q)

  -- the last filter gives to the output
  to_output : (before : List ℕ) (last : ℕ) → before ++ last ∷ [] ≡ order → Contains links (record { from = from.Filter last 0; to = to.Output 0 })
  to_output before last e =
      let link = are.gives last (of_order before last [] e) in
      elim (are.end link.0 link.1) [
        | inl out ↦ is_link link.0 (from.Filter last 0) (to.Output 0) link.1 link.2 out
        | inr taker ↦ absurd (let past = later before last [] e taker.0 (feeds_by link.0 last taker.0 link.1 link.2 taker.2) in let none = past.1 in cc)
      ]

  -- what a filter gives to isn't taken by those after it
  not_taken : (before : List ℕ) (filter next : ℕ) (filters : List ℕ) → before ++ filter ∷ next ∷ filters ≡ order → ((link : Edge) → Contains (links_from (from.Filter next 0) filters) link → Contains links link)
      → (link : Edge) → Contains links link → link.from ≡ from.Filter filter 0 → Leads (from.Filter next 0) filters link.to → ⊥
  not_taken before filter next filters e rest link here begin leads =
      let same : link ≡ leads.0 = are.once link leads.0 here (rest leads.0 leads.1) (sym leads.2) in
      let giver : leads.0.from ≡ from.Filter filter 0 = ap (λ (l : Edge). l.from) (sym same) ∙ begin in
      elim leads.3 [
        | inl first ↦ (
            let ends : from.Filter next 0 ≡ from.Filter filter 0 = sym first ∙ giver in
            let is : next ≡ filter = cc in
            apart before filter (next ∷ filters) e 0 (ap Some is)
            )
        | inr other ↦ (
            let ends : from.Filter other.1 0 ≡ from.Filter filter 0 = sym other.3 ∙ giver in
            let is : other.1 ≡ filter = cc in
            apart before filter (next ∷ filters) e (suc other.0) (other.2 ∙ ap Some is)
            )
      ]

  -- each other filter gives to the next
  to_next : (before : List ℕ) (filter next : ℕ) (filters : List ℕ) → before ++ filter ∷ next ∷ filters ≡ order → ((link : Edge) → Contains (links_from (from.Filter next 0) filters) link → Contains links link)
      → Contains links (record { from = from.Filter filter 0; to = to.Filter next 0 })
  to_next before filter next filters e rest = by_end (are.end link.0 link.1) where
    link : (link : Edge) × Contains links link × (link.from ≡ from.Filter filter 0)
    link = are.gives filter (of_order before filter (next ∷ filters) e)

    free : Leads (from.Filter next 0) filters link.0.to → ⊥
    free leads = not_taken before filter next filters e rest link.0 link.1 link.2 leads

    by_place : (taker k : ℕ) → link.0.to ≡ to.Filter taker 0 → slice_get (next ∷ filters) k ≡ Some taker → Contains links (record { from = from.Filter filter 0; to = to.Filter next 0 })
    by_place taker zero is at = is_link link.0 (from.Filter filter 0) (to.Filter next 0) link.1 link.2 (is ∙ ap (λ (n : ℕ). to.Filter n 0) (sym (same_Some next taker at)))
    by_place taker (suc k) is at = absurd (free (let P : Target → Type 0 = λ t. Leads (from.Filter next 0) filters t in subst P (sym is) (leads_to_filter (from.Filter next 0) filters k taker at)))

    by_end : (link.0.to ≡ to.Output 0) ⊎ ((taker : ℕ) × Contains order taker × (link.0.to ≡ to.Filter taker 0)) → Contains links (record { from = from.Filter filter 0; to = to.Filter next 0 })
    by_end (inl out) = absurd (free (let P : Target → Type 0 = λ t. Leads (from.Filter next 0) filters t in subst P (sym out) (leads_to_output (from.Filter next 0) filters)))
    by_end (inr taker) =
        let place = later before filter (next ∷ filters) e taker.0 (feeds_by link.0 filter taker.0 link.1 link.2 taker.2) in
        by_place taker.0 place.0 taker.2 place.1

  -- the links of the path from a filter on
  path_on : (before : List ℕ) (filter : ℕ) (filters : List ℕ) → before ++ filter ∷ filters ≡ order → (link : Edge) → Contains (links_from (from.Filter filter 0) filters) link → Contains links link
  path_on before filter [] e link here =
      elim (contained_cases (let x : Edge = record { from = from.Filter filter 0; to = to.Output 0 } in x) [] link here) [
        | inl same ↦ (let P : Edge → Type 0 = λ l. Contains links l in subst P same (to_output before filter e))
        | inr none ↦ absurd (none_contained link none)
      ]
  path_on before filter (next ∷ filters) e link here =
      let rest = path_on (before ++ filter ∷ []) next filters (append_assoc before (filter ∷ []) (next ∷ filters) ∙ e) in
      elim (contained_cases (let x : Edge = record { from = from.Filter filter 0; to = to.Filter next 0 } in x) (links_from (from.Filter next 0) filters) link here) [
        | inl same ↦ (let P : Edge → Type 0 = λ l. Contains links l in subst P same (to_next before filter next filters e rest))
        | inr more ↦ rest link more
      ]

  -- the first filter takes from the input
  to_first : (filter : ℕ) (filters : List ℕ) → filter ∷ filters ≡ order → Contains links (record { from = from.Input 0; to = to.Filter filter 0 })
  to_first filter filters e =
      let link = are.takes filter (of_order [] filter filters e) in
      elim (are.begin link.0 link.1) [
        | inl input ↦ is_link link.0 (from.Input 0) (to.Filter filter 0) link.1 input link.2
        | inr giver ↦ absurd (
            let places = are.after giver.0 filter (feeds_by link.0 giver.0 filter link.1 giver.2 link.2) in
            let first : places.1 ≡ 0 = are.distinct places.1 0 filter places.3 (ap (λ (l : List ℕ). slice_get l 0) (sym e)) in
            let less = places.4 in omega arith
            )
      ]

  -- the links of the whole path
  path_whole : (filters : List ℕ) → filters ≡ order → (link : Edge) → Contains (links_from (from.Input 0) filters) link → Contains links link
  path_whole [] e link here =
      elim (contained_cases (let x : Edge = record { from = from.Input 0; to = to.Output 0 } in x) [] link here) [
        | inl same ↦ (
            let out = are.output in
            let P : Edge → Type 0 = λ l. Contains links l in
            elim (are.begin out.0 out.1) [
              | inl input ↦ subst P same (is_link out.0 (from.Input 0) (to.Output 0) out.1 input out.2)
              | inr giver ↦ absurd (let Q : List ℕ → Type 0 = λ l. Contains l giver.0 in none_contained giver.0 (subst Q (sym e) giver.1))
            ]
            )
        | inr none ↦ absurd (none_contained link none)
      ]
  path_whole (filter ∷ filters) e link here =
      elim (contained_cases (let x : Edge = record { from = from.Input 0; to = to.Filter filter 0 } in x) (links_from (from.Filter filter 0) filters) link here) [
        | inl same ↦ (let P : Edge → Type 0 = λ l. Contains links l in subst P same (to_first filter filters e))
        | inr more ↦ path_on [] filter filters e link more
      ]

  -- a link whose end the path leads to is one of the path
  of_path : (link : Edge) → Contains links link → Leads (from.Input 0) order link.to → Contains (links_from (from.Input 0) order) link
  of_path link here leads =
      let same : link ≡ leads.0 = are.once link leads.0 here (path_whole order refl leads.0 leads.1) (sym leads.2) in
      let P : Edge → Type 0 = λ l. Contains (links_from (from.Input 0) order) l in
      subst P (sym same) leads.1

  are_path : (link : Edge) → Contains links link ↔ Contains (links_from (from.Input 0) order) link
  are_path link = (
    λ here. of_path link here (let P : Target → Type 0 = λ t. Leads (from.Input 0) order t in elim (are.end link here) [
      | inl out ↦ subst P (sym out) (leads_to_output (from.Input 0) order)
      | inr taker ↦ (let at = place_of order taker.0 taker.1 in subst P (sym taker.2) (leads_to_filter (from.Input 0) order at.0 taker.0 at.2))
    ]),
    path_whole order refl link,
  )

-- ---- each output pad begins a link

-- an output pad is joined to an input pad, or it is left
joined_or_left : (graph : Graph) (givers : List Place) (opens : List OpenOut) → AreLeft graph givers opens → (k : ℕ) (giver : Place) → slice_get givers k ≡ Some giver
    → ((taker : Place) × AreJoined graph giver taker) ⊎ ((o : ℕ) × (p : OpenOut) × (slice_get opens o ≡ Some p) × (p.filter ≡ giver.filter) × (p.pad ≡ giver.pad))
joined_or_left graph [] opens are k giver e = absurd (cc)
joined_or_left graph (first ∷ givers) opens (inl are) zero giver e = inl (let P : Place → Type 0 = λ p. (taker : Place) × AreJoined graph p taker in subst P (same_Some first giver e) are.0)
joined_or_left graph (first ∷ givers) opens (inl are) (suc k) giver e = joined_or_left graph givers opens are.1 k giver e
joined_or_left graph (first ∷ givers) opens (inr are) zero giver e =
    let same = same_Some first giver e in
    inr (0, out_pad graph first are.1.0, ap (λ (l : List OpenOut). slice_get l 0) are.1.3, ap (λ (p : Place). p.filter) same, ap (λ (p : Place). p.pad) same)
joined_or_left graph (first ∷ givers) opens (inr are) (suc k) giver e = elim (joined_or_left graph givers are.1.1 are.1.4 k giver e) [
  | inl joined ↦ inl joined
  | inr left ↦ inr (suc left.0, left.1, ap (λ (l : List OpenOut). slice_get l (suc left.0)) are.1.3 ∙ left.2, left.3, left.4)
]

module _ (graph : Graph) (draft : DraftPlan) (files : List OutputFile) (plan : Plan) (small : IsSmall graph) (linked : IsLinked graph 1 draft) (bound : IsBound draft files plan) where
  of_draft : (link : Edge) → Contains draft.links link → Contains plan.links link
  of_draft link here = let P : List Edge → Type 0 = λ l. Contains l link in subst P (sym bound.links) (Contains-append_left draft.links bound.outputs link here)

  of_outputs : (link : Edge) → Contains bound.outputs link → Contains plan.links link
  of_outputs link here = let P : List Edge → Type 0 = λ l. Contains l link in subst P (sym bound.links) (Contains-append_right draft.links bound.outputs link here)

  abbrev Begins : ℕ → ℕ → Type 0
  Begins filter pad = (link : Edge) × Contains plan.links link × (link.from ≡ from.Filter filter pad)

  joined_begins : (giver taker : Place) → AreJoined graph giver taker → Begins giver.filter giver.pad
  joined_begins giver taker joined =
      let wants = joined_taker_is_there graph small.each linked.sound.pads giver taker joined in
      let at = place_of (pads_on graph In) taker (item_places (kinds In) graph.pads taker wants.0 wants.1) in
      let there = link_for graph [] (pads_on graph In) draft.links linked.draft_is.links at.0 taker at.2 in
      let link : Edge = link_to taker there.0 in
      let of = link_at graph [] (pads_on graph In) draft.links linked.draft_is.links at.0 link there.1 in
      let same : of.0 ≡ taker = same_Some of.0 taker (sym of.1 ∙ at.2) in
      let P : Place → Type 0 = λ t. IsOrigin graph of.2.0 t of.2.1 in
      let origin = one_origin graph linked.sound.labels of.2.0 taker of.2.1 (from.Filter giver.filter giver.pad) (subst P same of.2.3) (inl (giver, refl, joined)) in
      (link, of_draft link (contained draft.links at.0 link there.1), ap (λ (l : Edge). l.from) of.2.2 ∙ origin)

  open_begins : (o : ℕ) (p : OpenOut) → slice_get draft.opens o ≡ Some p → Begins p.filter p.pad
  open_begins o p e = elim (first_or_none (λ k. Takes draft.opens files k o) (λ k. Takes draft.opens files k o → ⊥) (takes_or_not draft.opens files o) (length files)) [
    | inl taken ↦ (
        let each = bound.are_outputs.each in
        let low = taken.1 in
        let link = get_within bound.outputs taken.0 (omega arith) in
        let of = bound.are_outputs.are taken.0 link.0 link.1 in
        let same : of.0 ≡ o = takes_same of.1 taken.2 in
        let pad : of.2.0 ≡ p = same_Some of.2.0 p (sym of.2.1 ∙ (ap (slice_get draft.opens) same ∙ e)) in
        (link.0, of_outputs link.0 (contained bound.outputs taken.0 link.0 link.1), ap (λ (l : Edge). l.from) of.2.2 ∙ ap (λ (x : OpenOut). from.Filter x.filter x.pad) pad)
        )
    | inr none ↦ absurd (bound.all_mapped o (slice_get_within draft.opens o p e, λ k takes. none k (takes_within takes).0 takes))
  ]

  begins : (filter pad : ℕ) (gives : Media) → kind graph Out filter pad ≡ Some gives → Begins filter pad
  begins filter pad gives is =
      let giver : Place = record { filter = filter; pad = pad } in
      let at = place_of (pads_on graph Out) giver (item_places (kinds Out) graph.pads giver gives is) in
      elim (joined_or_left graph (pads_on graph Out) draft.opens linked.draft_is.opens at.0 giver at.2) [
        | inl joined ↦ joined_begins giver joined.0 joined.1
        | inr left ↦ (
            let link = open_begins left.0 left.1 left.2 in
            (link.0, link.1, link.2 ∙ (ap (λ (n : ℕ). from.Filter n left.1.pad) left.3 ∙ ap (λ (n : ℕ). from.Filter filter n) left.4))
            )
      ]

  -- ---- pads of filters that have one on each side

  module _ (single : AreSingle graph.pads) (one_input : length graph.files ≡ 1) (one_output : length files ≡ 1) where
    one_pad : (side : Side) (filter : ℕ) (p : Pads) → slice_get graph.pads filter ≡ Some p → length (kinds side p) ≡ 1
    one_pad In filter p at = (All-contains (λ (x : Pads). (length x.ins ≡ 1) × (length x.outs ≡ 1)) graph.pads p single (contained graph.pads filter p at)).0
    one_pad Out filter p at = (All-contains (λ (x : Pads). (length x.ins ≡ 1) × (length x.outs ≡ 1)) graph.pads p single (contained graph.pads filter p at)).1

    pad_there : (side : Side) (filter : ℕ) → filter < length graph.calls → (is : Media) × (kind graph side filter 0 ≡ Some is)
    pad_there side filter low =
        let each = small.each in
        let p = get_within graph.pads filter (omega arith) in
        let one = one_pad side filter p.0 p.1 in
        let is = get_within (kinds side p.0) 0 (omega arith) in
        (is.0, item_is (kinds side) graph.pads filter 0 p.0 p.1 ∙ is.1)

    pad_first : (side : Side) (filter pad : ℕ) (is : Media) → kind graph side filter pad ≡ Some is → pad ≡ 0
    pad_first side filter pad is e =
        let p = item_at (kinds side) graph.pads filter pad is e in
        let one = one_pad side filter p.0 p.1 in
        let low = slice_get_within (kinds side p.0) pad is p.2 in
        omega arith

    filter_low : (side : Side) (filter pad : ℕ) (is : Media) → kind graph side filter pad ≡ Some is → filter < length graph.calls
    filter_low side filter pad is e =
        let each = small.each in
        let low = item_filter (kinds side) graph.pads filter pad is e in
        omega arith

    lawful : IsLawful graph files plan
    lawful = plans_are_lawful.lawful graph 1 draft files plan small linked bound

    begin_of : (source : Source) (gives : Media) → given graph source ≡ Some gives → (source ≡ from.Input 0) ⊎ ((filter : ℕ) × Contains plan.order filter × (source ≡ from.Filter filter 0))
    begin_of (from.Input file) gives e = inl (let low = slice_get_within graph.files file gives e in let zeroth : file ≡ 0 = omega arith in ap (λ (n : ℕ). from.Input n) zeroth)
    begin_of (from.Filter filter pad) gives e = inr (filter, lawful.filters filter (filter_low Out filter pad gives e), ap (λ (n : ℕ). from.Filter filter n) (pad_first Out filter pad gives e))

    end_of : (target : Target) (gives : Media) → CanTake graph files target gives → (target ≡ to.Output 0) ⊎ ((filter : ℕ) × Contains plan.order filter × (target ≡ to.Filter filter 0))
    end_of (to.Filter filter pad) gives e = inr (filter, lawful.filters filter (filter_low In filter pad gives e), ap (λ (n : ℕ). to.Filter filter n) (pad_first In filter pad gives e))
    end_of (to.Output output) gives can = inl (let low = slice_get_within files output can.0 can.1 in let zeroth : output ≡ 0 = omega arith in ap (λ (n : ℕ). to.Output n) zeroth)

    one_link : (a b : Edge) → Contains plan.links a → Contains plan.links b → a.to ≡ b.to → a ≡ b
    one_link a b p q same =
        let first = place_of plan.links a p in
        let second = place_of plan.links b q in
        let at : first.0 ≡ second.0 = lawful.once first.0 second.0 a b first.2 second.2 same in
        same_Some a b (sym first.2 ∙ (ap (slice_get plan.links) at ∙ second.2))

    is_path : IsPath plan
    is_path = are_path plan.links plan.order (record {
      begin = λ link here. let ends = lawful.agree link here in begin_of link.from ends.0 ends.1;
      end = λ link here. let ends = lawful.agree link here in end_of link.to ends.0 ends.2;
      once = one_link;
      gives = λ filter here. let there = pad_there Out filter (lawful.below filter here) in begins filter 0 there.0 there.1;
      takes = λ filter here. let there = pad_there In filter (lawful.below filter here) in lawful.pads filter 0 there.0 there.1;
      output = lawful.outputs 0 (omega arith);
      distinct = lawful.distinct;
      after = lawful.after;
    })

pub plans_are_paths : PlansArePaths
plans_are_paths = λ graph draft files plan small single one_input one_output linked bound. is_path graph draft files plan small linked bound single one_input one_output
