-- A graph's draft, once it is bound, is a lawful plan.
use Rattle.std.proofs.Common.{◌≡◌, ◌<◌, ◌+◌, ◌++◌, ◌⊎◌, ℕ, zero, suc, List, [], ◌∷◌, Some, nat_eq, length, refl, sym, ◌∙◌, ap, subst, inl, inr, arith, append_assoc}
use Rattle.std.specs.List.{slice_get, Contains}
use Rattle.std.proofs.lemmas.Bool.{cases_order}
use Rattle.std.proofs.lemmas.Cmp.{nat_eq_equiv}
use Rattle.std.proofs.lemmas.List.{append-nil}
use Rattle.std.proofs.lemmas.List.Elements.{Contains-push_cases, Contains-append_left, Contains-append_right}
use Rattle.std.proofs.lemmas.Map.Keys.{apart_from_distinct}
use Rattle.std.proofs.lemmas.Option.{same_Some, slice_get_within, get_or_from_slice_get}
use Rattle.av_base.specs.declared.formats.Media.{Media}
use Rattle.av_base.specs.declared.formats.Media.TheVariants as media
use Rattle.graph_plan.specs.declared.plan.Pads.{Pads}
use Rattle.graph_plan.specs.declared.plan.Edge.{Edge}
use Rattle.graph_plan.specs.declared.plan.Source.{Source}
use Rattle.graph_plan.specs.declared.plan.Source.TheVariants as from
use Rattle.graph_plan.specs.declared.plan.Target.TheVariants as to
use Rattle.graph_plan.specs.declared.plan.OpenOut.{OpenOut}
use Rattle.graph_plan.specs.declared.plan.OutputFile.{OutputFile}
use Rattle.graph_plan.specs.declared.plan.DraftPlan.{DraftPlan}
use Rattle.graph_plan.specs.declared.plan.Plan.{Plan}
use Rattle.graph_plan.specs.declared.places.Place.{Place}
use Rattle.graph_plan.specs.declared.places.Side.TheVariants.{In, Out}
use Rattle.graph_plan.specs.Orders.{Feeds, Comes}
use Rattle.graph_plan.specs.Graphs.{Graph, kinds, kind, pads_on, AreJoined, TakesFrom}
use Rattle.graph_plan.specs.Links.{link_to, AreLinks, out_pad, AreLeft, IsOrigin}
use Rattle.graph_plan.specs.Refusals.{IsSmall, IsSound, IsLinked}
use Rattle.graph_plan.specs.Bindings.{IsBound}
use Rattle.graph_plan.specs.Lawful.{given, CanTake, IsLawful, PlansAreLawful}
use Rattle.graph_plan.proofs.ListLemmas.{first_get}
use Rattle.av_base.proofs.Lists.{get_within, contained, place_of, append_get}
use Rattle.graph_plan.proofs.OrderLemmas.{AreDistinct, distinct_none, distinct_push, distinct_all}
use Rattle.graph_plan.proofs.GraphLemmas.{same_place, places_once, item_places, places_item, joined_giver_is_there}
use Rattle.graph_plan.proofs.LinkLemmas.{takes_below}
use Rattle.graph_plan.proofs.BindLemmas.{takes_within}

-- ---- links by the places of input pads

-- a link of them leads from an origin to the input pad at its place
pub link_at : (graph : Graph) (before : List Edge) (takers : List Place) (links : List Edge) → AreLinks graph before takers links → (k : ℕ) (link : Edge) → slice_get links k ≡ Some link
    → (taker : Place) × (slice_get takers k ≡ Some taker) × ((so_far : List Edge) × (origin : Source) × (link ≡ link_to taker origin) × IsOrigin graph so_far taker origin)
link_at graph before [] [] are k link e = absurd (cc)
link_at graph before [] (first ∷ links) are k link e = absurd are
link_at graph before (taker ∷ takers) [] are k link e = absurd are
link_at graph before (taker ∷ takers) (first ∷ links) are zero link e = (taker, refl, (before, are.0.0, sym (same_Some first link e) ∙ are.0.1, are.0.2))
link_at graph before (taker ∷ takers) (first ∷ links) are (suc k) link e = link_at graph (before ++ first ∷ []) takers links are.1 k link e

-- each input pad has a link at its place
pub link_for : (graph : Graph) (before : List Edge) (takers : List Place) (links : List Edge) → AreLinks graph before takers links → (k : ℕ) (taker : Place) → slice_get takers k ≡ Some taker
    → (origin : Source) × (slice_get links k ≡ Some (link_to taker origin))
link_for graph before [] links are k taker e = absurd (cc)
link_for graph before (first ∷ takers) [] are k taker e = absurd are
link_for graph before (first ∷ takers) (link ∷ links) are zero taker e = (are.0.0, ap Some (are.0.1 ∙ ap (λ (t : Place). link_to t are.0.0) (same_Some first taker e)))
link_for graph before (first ∷ takers) (link ∷ links) are (suc k) taker e = link_for graph (before ++ link ∷ []) takers links are.1 k taker e

-- ---- the ends of links agree

pub cases_Media : (a b : Media) → (a ≡ b) ⊎ (a ≡ b → ⊥)
cases_Media media.Video media.Video = inl refl
cases_Media media.Video media.Audio = inr (λ e. cc)
cases_Media media.Audio media.Video = inr (λ e. cc)
cases_Media media.Audio media.Audio = inl refl

-- what an input pad's origin gives is what the pad takes
pub origin_agrees : (graph : Graph) (outputs : ℕ) → IsSmall graph → IsSound graph outputs → (before : List Edge) (taker : Place) (origin : Source) (wants : Media) → kind graph In taker.filter taker.pad ≡ Some wants
    → IsOrigin graph before taker origin → given graph origin ≡ Some wants
origin_agrees graph outputs small sound before taker origin wants is (inl joined) =
    let there = joined_giver_is_there graph small.each sound.pads joined.0 taker joined.2 in
    let same : there.0 ≡ wants = elim (cases_Media there.0 wants) [
      | inl same ↦ same
      | inr differ ↦ absurd (sound.kinds taker.filter (inl (record { giver = joined.0; pad = taker.pad; joined = joined.2; gives = there.0; is_given = there.1; wants = wants; is_wanted = is; differ = differ })))
    ] in
    ap (given graph) joined.1 ∙ (there.1 ∙ ap Some same)
origin_agrees graph outputs small sound before taker origin wants is (inr (inl named)) =
    let there = get_within graph.files named.0 named.3.is_file in
    let same : there.0 ≡ wants = elim (cases_Media there.0 wants) [
      | inl same ↦ same
      | inr differ ↦ absurd (sound.kinds taker.filter (inr (record { pad = taker.pad; file = named.0; said = named.1; names = named.3; gives = there.0; is_given = there.1; wants = wants; is_wanted = is; differ = inl differ })))
    ] in
    ap (given graph) named.2 ∙ (there.1 ∙ ap Some same)
origin_agrees graph outputs small sound before taker origin wants is (inr (inr left)) =
    ap (given graph) left.2 ∙ (left.5.holds.is_file ∙ (sym left.4 ∙ is))

-- if an input pad takes from an output pad, the text says so
pub origin_takes : (graph : Graph) (before : List Edge) (taker : Place) (origin : Source) (giver : Place) → origin ≡ from.Filter giver.filter giver.pad → IsOrigin graph before taker origin → AreJoined graph giver taker
origin_takes graph before taker origin giver e (inl joined) =
    let ends : from.Filter joined.0.filter joined.0.pad ≡ from.Filter giver.filter giver.pad = sym joined.1 ∙ e in
    let same : joined.0 ≡ giver = same_place joined.0 giver (cc) (cc) in
    let P : Place → Type 0 = λ p. AreJoined graph p taker in
    subst P same joined.2
origin_takes graph before taker origin giver e (inr (inl named)) = absurd (let ends = sym named.2 ∙ e in cc)
origin_takes graph before taker origin giver e (inr (inr left)) = absurd (let ends = sym left.2 ∙ e in cc)

-- an open output pad gives what the draft says
pub left_gives : (graph : Graph) (givers : List Place) (opens : List OpenOut) → AreLeft graph givers opens → (o : ℕ) (p : OpenOut) → slice_get opens o ≡ Some p → kind graph Out p.filter p.pad ≡ Some p.media
left_gives graph [] [] are o p e = absurd (cc)
left_gives graph [] (first ∷ opens) are o p e = absurd are
left_gives graph (giver ∷ givers) opens (inl are) o p e = left_gives graph givers opens are.1 o p e
left_gives graph (giver ∷ givers) opens (inr are) o p e =
    elim (first_get (out_pad graph giver are.1.0) are.1.1 o p (ap (λ (l : List OpenOut). slice_get l o) (sym are.1.3) ∙ e)) [
      | inl same ↦ (let P : OpenOut → Type 0 = λ x. kind graph Out x.filter x.pad ≡ Some x.media in subst P same are.1.2)
      | inr later ↦ left_gives graph givers are.1.1 are.1.4 later.0 p later.2
    ]

-- ---- the order

-- what comes is below the count, once, and all
pub comes_distinct : (R : ℕ → ℕ → Type 0) (count : ℕ) (done filters : List ℕ) → AreDistinct count done → Comes R count done filters → AreDistinct count (done ++ filters) × (length (done ++ filters) ≡ count)
comes_distinct R count done [] are all = rw (append-nil done) (are, all)
comes_distinct R count done (filter ∷ filters) are comes = rw append_assoc at (comes_distinct R count (done ++ filter ∷ []) filters (distinct_push count done filter are comes.0 comes.1) comes.4)

-- a filter comes after those that it takes from
pub comes_after : (R : ℕ → ℕ → Type 0) (count : ℕ) (done filters : List ℕ) → Comes R count done filters → (giver taker : ℕ) → R giver taker → (j : ℕ) → slice_get filters j ≡ Some taker
    → Contains done giver ⊎ ((i : ℕ) × (slice_get filters i ≡ Some giver) × (i < j))
comes_after R count done [] comes giver taker takes j e = absurd (cc)
comes_after R count done (filter ∷ filters) comes giver taker takes zero e = inl (comes.2 giver (let same : filter ≡ taker = same_Some filter taker e in subst (R giver) (sym same) takes))
comes_after R count done (filter ∷ filters) comes giver taker takes (suc j) e = elim (comes_after R count (done ++ filter ∷ []) filters comes.4 giver taker takes j e) [
  | inl before ↦ elim (Contains-push_cases done filter giver before) [
    | inl old ↦ inl old
    | inr same ↦ inr (0, ap Some same, omega arith)
  ]
  | inr here ↦ inr (suc here.0, here.1, (let less = here.2 in omega arith))
]

-- an element of a list without equal ones is at one place
pub distinct_once : (count : ℕ) (filters : List ℕ) → AreDistinct count filters → (i j filter : ℕ) → slice_get filters i ≡ Some filter → slice_get filters j ≡ Some filter → i ≡ j
distinct_once count filters are i j filter p q = elim (cases_order i j) [
  | inl same ↦ same
  | inr apart ↦ absurd (elim apart [ inl less ↦ twice i j p q less | inr more ↦ twice j i q p more ])
] where
  twice : (i j : ℕ) → slice_get filters i ≡ Some filter → slice_get filters j ≡ Some filter → i < j → ⊥
  twice i j p q less =
      let apart = apart_from_distinct nat_eq filters i j filter are.distinct less (slice_get_within filters j filter q) in
      let first = get_or_from_slice_get filters i filter filter p in
      let second = get_or_from_slice_get filters j filter filter q in
      let same = nat_eq_equiv.refl filter in
      cc

-- ---- plans are lawful

-- a link from an output pad to an input pad
abbrev between : ℕ → ℕ → ℕ → ℕ → Edge
between giver out_pad taker in_pad = record { from = from.Filter giver out_pad; to = to.Filter taker in_pad }

-- a graph's draft, and its plan
record IsPlanOf (graph : Graph) (outputs : ℕ) (draft : DraftPlan) (files : List OutputFile) (plan : Plan) : Type 0 where
  small : IsSmall graph
  linked : IsLinked graph outputs draft
  bound : IsBound draft files plan

module _ (graph : Graph) (outputs : ℕ) (draft : DraftPlan) (files : List OutputFile) (plan : Plan) (is : IsPlanOf graph outputs draft files plan) where
  -- a link of the plan is one of the draft's, or one to an output
  either : (i : ℕ) (link : Edge) → slice_get plan.links i ≡ Some link
      → (slice_get draft.links i ≡ Some link) ⊎ ((k : ℕ) × (i ≡ length draft.links + k) × (slice_get is.bound.outputs k ≡ Some link))
  either i link e = append_get draft.links is.bound.outputs i link (ap (λ (l : List Edge). slice_get l i) (sym is.bound.links) ∙ e)

  to_pad : (i : ℕ) (link : Edge) → slice_get draft.links i ≡ Some link
      → (taker : Place) × (slice_get (pads_on graph In) i ≡ Some taker) × ((so_far : List Edge) × (origin : Source) × (link ≡ link_to taker origin) × IsOrigin graph so_far taker origin)
  to_pad i link e = link_at graph [] (pads_on graph In) draft.links is.linked.draft_is.links i link e

  of_draft : (link : Edge) → Contains draft.links link → Contains plan.links link
  of_draft link here = let P : List Edge → Type 0 = λ l. Contains l link in subst P (sym is.bound.links) (Contains-append_left draft.links is.bound.outputs link here)

  of_outputs : (link : Edge) → Contains is.bound.outputs link → Contains plan.links link
  of_outputs link here = let P : List Edge → Type 0 = λ l. Contains l link in subst P (sym is.bound.links) (Contains-append_right draft.links is.bound.outputs link here)

  -- the ends of a link are there and agree
  abbrev Agrees : Edge → Type 0
  Agrees link = (gives : Media) × (given graph link.from ≡ Some gives) × CanTake graph files link.to gives

  agree_pad : (i : ℕ) (link : Edge) → slice_get draft.links i ≡ Some link → Agrees link
  agree_pad i link e =
      let at = to_pad i link e in
      let there = places_item (kinds In) graph.pads at.0 (contained (pads_on graph In) i at.0 at.1) in
      let P : Edge → Type 0 = λ l. Agrees l in
      subst P (sym at.2.2) (there.0, origin_agrees graph outputs is.small is.linked.sound at.2.0 at.0 at.2.1 there.0 there.1 at.2.3, there.1)

  agree_output : (k : ℕ) (link : Edge) → slice_get is.bound.outputs k ≡ Some link → Agrees link
  agree_output k link e =
      let at = is.bound.are_outputs.are k link e in
      let file = get_within files k (takes_within at.1).0 in
      let P : Edge → Type 0 = λ l. Agrees l in
      subst P (sym at.2.2) (
        at.2.0.media,
        left_gives graph (pads_on graph Out) draft.opens is.linked.draft_is.opens at.0 at.2.0 at.2.1,
        (file.0, file.1, λ cannot. is.bound.all_fit k (record { place = at.0; takes = at.1; file = file.0; is_file = file.1; pad = at.2.0; is_pad = at.2.1; cannot = cannot })),
      )

  agree : (link : Edge) → Contains plan.links link → Agrees link
  agree link here =
      let at = place_of plan.links link here in
      elim (either at.0 link at.2) [
        | inl pad ↦ agree_pad at.0 link pad
        | inr output ↦ agree_output output.0 link output.2
      ]

  once : (i j : ℕ) (a b : Edge) → slice_get plan.links i ≡ Some a → slice_get plan.links j ≡ Some b → a.to ≡ b.to → i ≡ j
  once i j a b p q same = cases (either i a p) (either j b q) where
    cases : (slice_get draft.links i ≡ Some a) ⊎ ((k : ℕ) × (i ≡ length draft.links + k) × (slice_get is.bound.outputs k ≡ Some a))
        → (slice_get draft.links j ≡ Some b) ⊎ ((k : ℕ) × (j ≡ length draft.links + k) × (slice_get is.bound.outputs k ≡ Some b)) → i ≡ j
    cases (inl u) (inl v) =
        let first = to_pad i a u in
        let second = to_pad j b v in
        let ends : to.Filter first.0.filter first.0.pad ≡ to.Filter second.0.filter second.0.pad = ap (λ (l : Edge). l.to) (sym first.2.2) ∙ (same ∙ ap (λ (l : Edge). l.to) second.2.2) in
        let one : first.0 ≡ second.0 = same_place first.0 second.0 (cc) (cc) in
        places_once (λ (p : Pads). length (kinds In p)) 0 graph.pads i j second.0 (first.1 ∙ ap Some one) second.1
    cases (inl u) (inr v) =
        let first = to_pad i a u in
        let second = is.bound.are_outputs.are v.0 b v.2 in
        let ends : to.Filter first.0.filter first.0.pad ≡ to.Output v.0 = ap (λ (l : Edge). l.to) (sym first.2.2) ∙ (same ∙ ap (λ (l : Edge). l.to) second.2.2) in
        absurd (cc)
    cases (inr u) (inl v) =
        let first = is.bound.are_outputs.are u.0 a u.2 in
        let second = to_pad j b v in
        let ends : to.Output u.0 ≡ to.Filter second.0.filter second.0.pad = ap (λ (l : Edge). l.to) (sym first.2.2) ∙ (same ∙ ap (λ (l : Edge). l.to) second.2.2) in
        absurd (cc)
    cases (inr u) (inr v) =
        let first = is.bound.are_outputs.are u.0 a u.2 in
        let second = is.bound.are_outputs.are v.0 b v.2 in
        let ends : to.Output u.0 ≡ to.Output v.0 = ap (λ (l : Edge). l.to) (sym first.2.2) ∙ (same ∙ ap (λ (l : Edge). l.to) second.2.2) in
        let one : u.0 ≡ v.0 = cc in
        (let m = u.1 in let n = v.1 in omega arith)

  pads : (filter pad : ℕ) (wants : Media) → kind graph In filter pad ≡ Some wants → (link : Edge) × Contains plan.links link × (link.to ≡ to.Filter filter pad)
  pads filter pad wants e =
      let taker : Place = record { filter = filter; pad = pad } in
      let at = place_of (pads_on graph In) taker (item_places (kinds In) graph.pads taker wants e) in
      let link = link_for graph [] (pads_on graph In) draft.links is.linked.draft_is.links at.0 taker at.2 in
      (link_to taker link.0, of_draft (link_to taker link.0) (contained draft.links at.0 (link_to taker link.0) link.1), refl)

  outputs_taken : (output : ℕ) → output < length files → (link : Edge) × Contains plan.links link × (link.to ≡ to.Output output)
  outputs_taken output low =
      let each = is.bound.are_outputs.each in
      let link = get_within is.bound.outputs output (omega arith) in
      let at = is.bound.are_outputs.are output link.0 link.1 in
      (link.0, of_outputs link.0 (contained is.bound.outputs output link.0 link.1), ap (λ (l : Edge). l.to) at.2.2)

  order_distinct : AreDistinct (length graph.calls) draft.order × (length draft.order ≡ length graph.calls)
  order_distinct = comes_distinct (TakesFrom graph) (length graph.calls) [] draft.order (distinct_none (length graph.calls)) is.linked.draft_is.order

  -- a link between filters is one that the text makes
  takes : (giver taker : ℕ) → Feeds plan.links giver taker → TakesFrom graph giver taker
  takes giver taker feeds = cases (place_of plan.links (between giver feeds.0 taker feeds.1) feeds.2) where
    cases : (i : ℕ) × (i < length plan.links) × (slice_get plan.links i ≡ Some (between giver feeds.0 taker feeds.1)) → TakesFrom graph giver taker
    cases at = elim (either at.0 (between giver feeds.0 taker feeds.1) at.2) [
      | inl pad ↦ (
          let end = to_pad at.0 (between giver feeds.0 taker feeds.1) pad in
          let origin : end.2.1 ≡ from.Filter giver feeds.0 = ap (λ (l : Edge). l.from) (sym end.2.2) in
          let ends : to.Filter end.0.filter end.0.pad ≡ to.Filter taker feeds.1 = ap (λ (l : Edge). l.to) (sym end.2.2) in
          let same : end.0 ≡ record { filter = taker; pad = feeds.1 } = same_place end.0 (record { filter = taker; pad = feeds.1 }) (cc) (cc) in
          let P : Place → Type 0 = λ p. AreJoined graph (record { filter = giver; pad = feeds.0 }) p in
          (feeds.0, feeds.1, subst P same (origin_takes graph end.2.0 end.0 end.2.1 (record { filter = giver; pad = feeds.0 }) origin end.2.3))
          )
      | inr output ↦ absurd (
          let end = is.bound.are_outputs.are output.0 (between giver feeds.0 taker feeds.1) output.2 in
          let ends : to.Filter taker feeds.1 ≡ to.Output output.0 = ap (λ (l : Edge). l.to) end.2.2 in
          cc
          )
    ]

  ordered : (P : List ℕ → Type 0) → P draft.order → P plan.order
  ordered P h = subst P (sym is.bound.order) h

  filters : (filter : ℕ) → filter < length graph.calls → Contains plan.order filter
  filters filter low = ordered (λ (l : List ℕ). Contains l filter) (distinct_all (length graph.calls) draft.order order_distinct.0 order_distinct.1 filter low)

  after : (giver taker : ℕ) → Feeds plan.links giver taker → (i j : ℕ) × (slice_get plan.order i ≡ Some giver) × (slice_get plan.order j ≡ Some taker) × (i < j)
  after giver taker feeds =
      let does = takes giver taker feeds in
      let low = (takes_below graph).takers giver taker does in
      let at = place_of draft.order taker (distinct_all (length graph.calls) draft.order order_distinct.0 order_distinct.1 taker low) in
      elim (comes_after (TakesFrom graph) (length graph.calls) [] draft.order is.linked.draft_is.order giver taker does at.0 at.2) [
        | inl none ↦ absurd (let k : none.0 < 0 = none.1 in omega arith)
        | inr first ↦ (first.0, at.0, ordered (λ (l : List ℕ). slice_get l first.0 ≡ Some giver) first.1, ordered (λ (l : List ℕ). slice_get l at.0 ≡ Some taker) at.2, first.2)
      ]

  is_lawful : IsLawful graph files plan
  is_lawful = record {
    agree = agree;
    once = once;
    pads = pads;
    outputs = outputs_taken;
    filters = filters;
    below = λ filter here. order_distinct.0.below filter (let P : List ℕ → Type 0 = λ l. Contains l filter in subst P is.bound.order here);
    distinct = λ i j filter p q. distinct_once (length graph.calls) draft.order order_distinct.0 i j filter
        (let P : List ℕ → Type 0 = λ l. slice_get l i ≡ Some filter in subst P is.bound.order p) (let P : List ℕ → Type 0 = λ l. slice_get l j ≡ Some filter in subst P is.bound.order q);
    after = after;
  }

pub plans_are_lawful : PlansAreLawful
plans_are_lawful = record {
  lawful = λ graph outputs draft files plan small linked bound. is_lawful graph outputs draft files plan (record { small = small; linked = linked; bound = bound });
}
