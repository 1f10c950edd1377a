-- Links between filters, of the inlets that have one.
use Rattle.std.proofs.Common.{◌≡◌, ◌<◌, ◌+◌, ◌++◌, ◌↔◌, ℕ, List, [], ◌∷◌, Some, length, take, get_or, refl, sym, ◌∙◌, ap, subst, inl, inr, arith}
use Rattle.std.specs.List.{Contains}
use Rattle.std.proofs.lemmas.List.{take_more}
use Rattle.std.proofs.lemmas.List.Elements.{Contains-push, Contains-push_cases, Contains-append_left}
use Rattle.graph_plan.specs.declared.plan.Edge.{Edge}
use Rattle.graph_plan.specs.declared.plan.Source.TheVariants as from
use Rattle.graph_plan.specs.declared.plan.Target.TheVariants as to
use Rattle.graph_plan.specs.declared.places.Place.{Place}
use Rattle.graph_plan.specs.declared.places.Side.TheVariants.{In}
use Rattle.graph_plan.specs.declared.origins.Origin.{Origin}
use Rattle.graph_plan.specs.declared.origins.Origin.TheVariants.{Pad, File, Open}
use Rattle.graph_plan.specs.declared.origins.Inlet.{Inlet}
use Rattle.av_base.specs.First.{IsFirst, Never}
use Rattle.av_base.proofs.Lists.{get_within, contained, place_of}
use Rattle.av_base.proofs.Arithmetic.{first_along}
use Rattle.graph_plan.specs.Refusals.{HasCycle}
use Rattle.graph_plan.specs.Orders.{Feeds, LeadsTo, Directly, Through, Reaches, IsReady, Comes, IsOrder, AreBelow}
use Rattle.graph_plan.proofs.OrderLemmas.{comes_straight, done_none, leads_below}
use Rattle.graph_plan.proofs.LinkLemmas.{takes_below}
use Rattle.graph_plan.specs.Links.{link_to}
use Rattle.graph_plan.specs.Graphs.{Graph, kinds, kind, pads_on, AreJoined, TakesFrom}
use Rattle.graph_plan.specs.Joining.{IsJoinedBy, IsOriginOf, IsInlet, AreInlets, FitsTogether}
use Rattle.graph_plan.proofs.GraphLemmas.{item_places, one_giver, joined_not_named, joined_not_open, joined_taker_is_there}
use Rattle.graph_plan.proofs.ScanLemmas.{taker_at, inlet_count}
use Rattle.std.proofs.lemmas.Option.{same_Some, get_or_from_slice_get}
use Rattle.av_base.specs.declared.formats.Media.{Media}

joined_old : (inlets : List Inlet) (inlet : Inlet) (giver taker : ℕ) → IsJoinedBy inlets giver taker → IsJoinedBy (inlets ++ inlet ∷ []) giver taker
joined_old inlets inlet giver taker is = (is.0, Contains-append_left inlets (inlet ∷ []) is.0 is.1, is.2)

-- an inlet that no filter gives to
pub joined_same : (edges : List Edge) (inlets : List Inlet) (index : ℕ) (d : Inlet) → index < length inlets → ((out : Place) → (get_or inlets index d).origin ≡ Pad out → ⊥)
    → ((giver taker : ℕ) → Feeds edges giver taker ↔ IsJoinedBy (take index inlets) giver taker) → (giver taker : ℕ) → Feeds edges giver taker ↔ IsJoinedBy (take (index + 1) inlets) giver taker
joined_same edges inlets index d within none are giver taker = rw (take_more inlets index d within) (
  λ feeds. joined_old (take index inlets) (get_or inlets index d) giver taker ((are giver taker).0 feeds),
  λ is. elim (Contains-push_cases (take index inlets) (get_or inlets index d) is.0 is.1) [
    | inl old ↦ (are giver taker).1 (is.0, old, is.2)
    | inr same ↦ absurd (let P : Inlet → Type 0 = λ i. i.origin ≡ Pad is.2.0 in none is.2.0 (subst P (sym same) is.2.1))
  ],
)

-- an inlet that a filter gives to
pub joined_more : (edges : List Edge) (inlets : List Inlet) (index : ℕ) (d : Inlet) (out : Place) → index < length inlets → (get_or inlets index d).origin ≡ Pad out
    → ((giver taker : ℕ) → Feeds edges giver taker ↔ IsJoinedBy (take index inlets) giver taker)
    → (giver taker : ℕ) → Feeds (edges ++ link_to (get_or inlets index d).taker (from.Filter out.filter out.pad) ∷ []) giver taker ↔ IsJoinedBy (take (index + 1) inlets) giver taker
joined_more edges inlets index d out within origin are giver taker = rw (take_more inlets index d within) (there, back) where
  inlet : Inlet
  inlet = get_or inlets index d

  edge : Edge
  edge = link_to inlet.taker (from.Filter out.filter out.pad)

  there : Feeds (edges ++ edge ∷ []) giver taker → IsJoinedBy (take index inlets ++ inlet ∷ []) giver taker
  there feeds = elim (Contains-push_cases edges edge _ feeds.2) [
    | inl old ↦ joined_old (take index inlets) inlet giver taker ((are giver taker).0 (feeds.0, feeds.1, old))
    | inr same ↦ (
        let froms = ap (λ (l : Edge). l.from) same in
        let tos = ap (λ (l : Edge). l.to) same in
        let giver_is : out.filter ≡ giver = cc in
        let taker_is : inlet.taker.filter ≡ taker = cc in
        (inlet, Contains-push (take index inlets) inlet, (out, origin, giver_is, taker_is))
        )
  ]

  back : IsJoinedBy (take index inlets ++ inlet ∷ []) giver taker → Feeds (edges ++ edge ∷ []) giver taker
  back is = elim (Contains-push_cases (take index inlets) inlet is.0 is.1) [
    | inl old ↦ (let feeds = (are giver taker).1 (is.0, old, is.2) in (feeds.0, feeds.1, Contains-append_left edges (edge ∷ []) _ feeds.2))
    | inr same ↦ (
        let P : Inlet → Type 0 = λ i. i.origin ≡ Pad is.2.0 in
        let pads : Pad is.2.0 ≡ Pad out = sym (subst P (sym same) is.2.1) ∙ origin in
        let outs : is.2.0 ≡ out = cc in
        let giver_is : out.filter ≡ giver = ap (λ (p : Place). p.filter) (sym outs) ∙ is.2.2 in
        let taker_is : inlet.taker.filter ≡ taker = ap (λ (i : Inlet). i.taker.filter) same ∙ is.2.3 in
        let Q : ℕ → Type 0 = λ f. Contains (edges ++ edge ∷ []) (record { from = from.Filter f out.pad; to = to.Filter inlet.taker.filter inlet.taker.pad }) in
        let R : ℕ → Type 0 = λ f. Contains (edges ++ edge ∷ []) (record { from = from.Filter giver out.pad; to = to.Filter f inlet.taker.pad }) in
        (out.pad, inlet.taker.pad, subst R taker_is (subst Q giver_is (Contains-push edges edge)))
        )
  ]

pub joined_none : (giver taker : ℕ) → Feeds [] giver taker ↔ IsJoinedBy [] giver taker
joined_none giver taker = (λ feeds. absurd (let k : feeds.2.0 < 0 = feeds.2.1 in omega arith), λ is. absurd (let k : is.1.0 < 0 = is.1.1 in omega arith))

-- ---- all inlets

module _ (graph : Graph) (fit : FitsTogether graph) (inlets : List Inlet) (are : AreInlets graph inlets) where
  -- the inlet of an input pad
  pub inlet_of : (taker : Place) (wants : Media) → kind graph In taker.filter taker.pad ≡ Some wants → (inlet : Inlet) × Contains inlets inlet × (inlet.taker ≡ taker) × IsInlet graph inlet
  inlet_of taker wants is =
      let at = place_of (pads_on graph In) taker (item_places (kinds In) graph.pads taker wants is) in
      let within : at.0 < length inlets = let count = inlet_count graph inlets are in omega (arith, at.1) in
      let inlet = get_within inlets at.0 within in
      let read = get_or_from_slice_get inlets at.0 inlet.0 inlet.0 inlet.1 in
      let here = taker_at graph inlets at.0 inlet.0 are within in
      let P : Inlet → Type 0 = λ i. IsInlet graph i in (
        inlet.0,
        contained inlets at.0 inlet.0 inlet.1,
        ap (λ (i : Inlet). i.taker) (sym read) ∙ same_Some _ taker (sym here ∙ at.2),
        subst P read (are.each at.0 inlet.0 within),
      )

  pub inlet_is : (inlet : Inlet) → Contains inlets inlet → IsInlet graph inlet
  inlet_is inlet here = let P : Inlet → Type 0 = λ i. IsInlet graph i in subst P here.2 (are.each here.0 inlet here.1)

  -- if an output pad gives to an input pad, that is its origin
  pub pad_origin : (taker out : Place) (origin : Origin) → IsOriginOf graph taker origin → AreJoined graph out taker → origin ≡ Pad out
  pad_origin taker out (Pad giver) is joined = ap Pad (one_giver graph fit.labels giver out taker is joined)
  pad_origin taker out (File file said) is joined = absurd (joined_not_named graph out taker file said joined is)
  pad_origin taker out Open is joined = absurd (joined_not_open graph out taker joined is)

  -- the filters that the text joins are those of the inlets
  pub takes_joined : (giver taker : ℕ) → TakesFrom graph giver taker → IsJoinedBy inlets giver taker
  takes_joined giver taker is =
      let out : Place = record { filter = giver; pad = is.0 } in
      let in_ : Place = record { filter = taker; pad = is.1 } in
      let there = joined_taker_is_there graph fit.counted.small.each fit.counted.pads out in_ is.2 in
      let found = inlet_of in_ there.0 there.1 in
      let P : Place → Type 0 = λ p. AreJoined graph out p in
      let from_pad = pad_origin found.0.taker out found.0.origin found.3 (subst P (sym found.2) is.2) in
      (found.0, found.1, (out, from_pad, refl, ap (λ (p : Place). p.filter) found.2))

  pub joined_takes : (giver taker : ℕ) → IsJoinedBy inlets giver taker → TakesFrom graph giver taker
  joined_takes giver taker is =
      let inlet = is.0 in
      let out = is.2.0 in
      let P : Origin → Type 0 = λ o. IsOriginOf graph inlet.taker o in
      let joined : AreJoined graph out inlet.taker = subst P is.2.1 (inlet_is inlet is.1) in
      let Q : ℕ → Type 0 = λ f. AreJoined graph (record { filter = f; pad = out.pad }) inlet.taker in
      let R : ℕ → Type 0 = λ f. AreJoined graph (record { filter = giver; pad = out.pad }) (record { filter = f; pad = inlet.taker.pad }) in
      (out.pad, inlet.taker.pad, subst R is.2.3 (subst Q is.2.2 joined))

-- ---- one relation in place of another

module _ (R S : ℕ → ℕ → Type 0) (same : (giver taker : ℕ) → R giver taker ↔ S giver taker) where
  leads_along : (taker giver : ℕ) → LeadsTo R taker giver → LeadsTo S taker giver
  leads_along taker _ (Directly giver feeds) = Directly giver ((same giver taker).0 feeds)
  leads_along taker _ (Through giver middle feeds leads) = Through giver middle ((same giver middle).0 feeds) (leads_along taker middle leads)

  ready_along : (done : List ℕ) (taker : ℕ) → IsReady R done taker → IsReady S done taker
  ready_along done taker ready giver feeds = ready giver ((same giver taker).1 feeds)

  ready_back : (done : List ℕ) (taker : ℕ) → IsReady S done taker → IsReady R done taker
  ready_back done taker ready giver feeds = ready giver ((same giver taker).0 feeds)

  pub comes_along : (count : ℕ) (done filters : List ℕ) → Comes R count done filters → Comes S count done filters
  comes_along count done [] all = all
  comes_along count done (filter ∷ filters) comes = (
    comes.0,
    comes.1,
    ready_along done filter comes.2,
    λ other less new ready. comes.3 other less new (ready_back done other ready),
    comes_along count (done ++ filter ∷ []) filters comes.4,
  )

module _ (graph : Graph) (fit : FitsTogether graph) (inlets : List Inlet) (are : AreInlets graph inlets) (edges : List Edge)
    (joined : (giver taker : ℕ) → Feeds edges giver taker ↔ IsJoinedBy inlets giver taker) where
  feeds_takes : (giver taker : ℕ) → Feeds edges giver taker ↔ TakesFrom graph giver taker
  feeds_takes giver taker = (
    λ feeds. joined_takes graph fit inlets are giver taker ((joined giver taker).0 feeds),
    λ takes. (joined giver taker).1 (takes_joined graph fit inlets are giver taker takes),
  )

  takes_feeds : (giver taker : ℕ) → TakesFrom graph giver taker ↔ Feeds edges giver taker
  takes_feeds giver taker = let both = feeds_takes giver taker in (both.1, both.0)

  pub edges_below : AreBelow (Feeds edges) (length graph.calls)
  edges_below = record {
    givers = λ giver taker feeds. (takes_below graph).givers giver taker ((feeds_takes giver taker).0 feeds);
    takers = λ giver taker feeds. (takes_below graph).takers giver taker ((feeds_takes giver taker).0 feeds);
  }

  pub filters_in_order : (order : List ℕ) → IsOrder (Feeds edges) (length graph.calls) order → IsOrder (TakesFrom graph) (length graph.calls) order
  filters_in_order order is = comes_along (Feeds edges) (TakesFrom graph) feeds_takes (length graph.calls) [] order is

  pub filters_straight : (order : List ℕ) → IsOrder (Feeds edges) (length graph.calls) order → Never (HasCycle graph)
  filters_straight order is filter reaches =
      let back = leads_along (TakesFrom graph) (Feeds edges) takes_feeds filter filter reaches in
      comes_straight (Feeds edges) (length graph.calls) [] order filter (done_none (Feeds edges) (length graph.calls)) is (leads_below (Feeds edges) (length graph.calls) filter filter edges_below back) back

  pub lowest_cycle : (filter : ℕ) → IsFirst (λ f. Reaches (Feeds edges) f f) filter → IsFirst (HasCycle graph) filter
  lowest_cycle filter is =
      first_along (λ f reaches. leads_along (Feeds edges) (TakesFrom graph) feeds_takes f f reaches) (λ f reaches. leads_along (TakesFrom graph) (Feeds edges) takes_feeds f f reaches) is
