-- A graph has a draft or a fault.
use Rattle.std.proofs.Common.{◌≡◌, ◌⊎◌, ◌++◌, ℕ, List, [], ◌∷◌, Option, Some, None, length, refl, sym, ◌∙◌, ap, subst, inl, inr}
use Rattle.std.specs.List.{slice_get, Contains}
use Rattle.std.proofs.lemmas.Bool.{cases_eq}
use Rattle.std.proofs.lemmas.List.Elements.{Contains-append_right}
use Rattle.std.proofs.lemmas.Option.{same_Some, slice_get_within}
use Rattle.av_base.specs.declared.formats.Media.{Media}
use Rattle.av_base.specs.First.{Never}
use Rattle.av_base.proofs.Lists.{contained}
use Rattle.graph_plan.specs.declared.plan.Edge.{Edge}
use Rattle.graph_plan.specs.declared.plan.Source.{Source}
use Rattle.graph_plan.specs.declared.plan.Source.TheVariants as from
use Rattle.graph_plan.specs.declared.plan.OpenOut.{OpenOut}
use Rattle.graph_plan.specs.declared.plan.DraftPlan.{DraftPlan}
use Rattle.graph_plan.specs.declared.plan.PlanFault.{PlanFault}
use Rattle.graph_plan.specs.declared.plan.PlanFault.TheVariants.{TooManyLinks, PadCount, LabelTwice, UnknownInput, MediaMismatch, Cycle, OpenPad}
use Rattle.graph_plan.specs.declared.places.Place.{Place}
use Rattle.graph_plan.specs.declared.places.Side.TheVariants.{In, Out}
use Rattle.graph_plan.specs.declared.origins.Origin.{Origin}
use Rattle.graph_plan.specs.declared.origins.Origin.TheVariants.{Pad, File, Open}
use Rattle.graph_plan.specs.Graphs.{Graph, labels, kinds, kind, pads_on, AreJoined, TakesFrom, NamesFile, IsNamed}
use Rattle.graph_plan.specs.Links.{IsTaken, IsLeft, IsOrigin, link_to, AreLinks, out_pad, AreLeft}
use Rattle.graph_plan.specs.Refusals.{HasTooMany, HasUnknownInput, FindsNone, IsSmall, IsSound, IsLinkFault, IsLinked, GraphsLinkInOneWay}
use Rattle.graph_plan.specs.Joining.{IsUnknown, IsOriginOf, Differ, IsMismatched, FindsNoFile, FitsTogether}
use Rattle.graph_plan.proofs.GraphLemmas.{same_place, places_item, one_giver, joined_not_named, joined_not_open, named_not_open, one_named, joined_taker_is_there, joined_giver_is_there}
use Rattle.graph_plan.proofs.LinkLemmas.{takes_below, one_draft, one_fault, not_both}
use Rattle.graph_plan.proofs.LawfulLemmas.{cases_Media}
use Rattle.graph_plan.proofs.OriginLemmas.{pad_differs, file_differs, open_agrees}
use Rattle.graph_plan.proofs.ScanLemmas.{unknown_listed, mismatch_listed, origin_known, lowest_unknown, never_unknown, lowest_mismatch, never_mismatch}
use Rattle.graph_plan.proofs.Decisions.{Decided, decide_both, decide_either, decide_not, decide_along, first_or_never, decide_value, decide_listed, decide_row, decide_item}
use Rattle.graph_plan.proofs.FaultDecisions.{decide_many, pads_first_or_never, labels_first_or_never, origin_cases, scan_or_never}
use Rattle.graph_plan.proofs.CycleDecisions.{cycle_or_order}

-- ---- values

decide_differ : (first second : Option Media) → Decided (Differ first second)
decide_differ None second = inr (λ h. let some = h.2 in cc)
decide_differ (Some one) None = inr (λ h. let some = h.3 in cc)
decide_differ (Some one) (Some other) = elim (cases_Media one other) [
  | inl same ↦ inr (λ h. h.4 (sym (same_Some one h.0 h.2) ∙ (same ∙ same_Some other h.1 h.3)))
  | inr differ ↦ inl (one, other, refl, refl, differ)
]

decide_begins : (source : Source) (file : ℕ) → Decided (source ≡ from.Input file)
decide_begins (from.Input other) file = elim (cases_eq other file) [ inl same ↦ inl (ap (λ (k : ℕ). from.Input k) same) | inr apart ↦ inr (λ e. apart (cc)) ]
decide_begins (from.Filter filter pad) file = inr (λ e. cc)

decide_taken_file : (links : List Edge) (file : ℕ) → Decided (IsTaken links file)
decide_taken_file links file = decide_listed links (λ link. link.from ≡ from.Input file) (λ link. decide_begins link.from file)

decide_unknown : (graph : Graph) (taker : Place) → Decided (IsUnknown graph taker)
decide_unknown graph taker = elim (origin_cases graph taker) [
  | inl is ↦ inr (origin_known graph taker is.0 is.1)
  | inr unknown ↦ inl unknown
]

-- there is a draft, or a fault
abbrev DraftOrFault : Graph → ℕ → Type 0
DraftOrFault graph outputs = ((draft : DraftPlan) × IsLinked graph outputs draft) ⊎ ((f : PlanFault) × IsLinkFault graph outputs f)

module _ (graph : Graph) (fit : FitsTogether graph) (known : Never (HasUnknownInput graph)) where
  -- ---- origins

  origin_of : (taker : Place) → (origin : Origin) × IsOriginOf graph taker origin
  origin_of taker = elim (origin_cases graph taker) [
    | inl is ↦ is
    | inr u ↦ absurd (known taker.filter (record { pad = taker.pad; name = u.name; is_label = u.is_label; on_no_output = u.on_no_output; names_none = u.names_none }))
  ]

  decide_mismatch : (taker : Place) → Decided (IsMismatched graph taker)
  decide_mismatch taker = let is = origin_of taker in by is.0 is.1 where
    by : (origin : Origin) → IsOriginOf graph taker origin → Decided (IsMismatched graph taker)
    by (Pad giver) joined = let both = pad_differs graph fit.labels taker giver joined in decide_along both.0 both.1 (decide_differ _ _)
    by (File file said) names = let both = file_differs graph fit.labels taker file said names in decide_along both.0 both.1 (decide_either (decide_differ _ _) (decide_differ _ _))
    by Open opened = inr (open_agrees graph fit.labels taker opened)

  decide_joined : (giver taker : Place) → Decided (AreJoined graph giver taker)
  decide_joined giver taker = let is = origin_of taker in by is.0 is.1 where
    by : (origin : Origin) → IsOriginOf graph taker origin → Decided (AreJoined graph giver taker)
    by (Pad other) joined = elim (decide_both (cases_eq other.filter giver.filter) (cases_eq other.pad giver.pad)) [
      | inl same ↦ inl (subst (λ (p : Place). AreJoined graph p taker) (same_place other giver same.0 same.1) joined)
      | inr apart ↦ inr (λ is. (let same = one_giver graph fit.labels other giver taker joined is in apart (ap (λ (p : Place). p.filter) same, ap (λ (p : Place). p.pad) same)))
    ]
    by (File file said) names = inr (λ is. joined_not_named graph giver taker file said is names)
    by Open opened = inr (λ is. joined_not_open graph giver taker is opened)

  decide_names : (taker : Place) (file : ℕ) → Decided ((said : Option Media) × NamesFile graph taker file said)
  decide_names taker file = let is = origin_of taker in by is.0 is.1 where
    by : (origin : Origin) → IsOriginOf graph taker origin → Decided ((said : Option Media) × NamesFile graph taker file said)
    by (Pad giver) joined = inr (λ h. joined_not_named graph giver taker file h.0 joined h.1)
    by (File other said) names = elim (cases_eq other file) [
      | inl same ↦ inl (said, subst (λ (f : ℕ). NamesFile graph taker f said) same names)
      | inr apart ↦ inr (λ h. apart (one_named graph taker other file said h.0 names h.1).0)
    ]
    by Open opened = inr (λ h. named_not_open graph taker file h.0 h.1 opened)

  -- ---- which pads are joined

  taker_there : (giver taker : Place) → AreJoined graph giver taker → (wants : Media) × (kind graph In taker.filter taker.pad ≡ Some wants)
  taker_there giver taker joined = joined_taker_is_there graph fit.counted.small.each fit.counted.pads giver taker joined

  decide_takes : (giver taker : ℕ) → Decided (TakesFrom graph giver taker)
  decide_takes giver taker = decide_along (λ h. (h.0, h.3.0, h.3.3)) back (decide_row (kinds Out) graph.pads giver Gives decide_gives) where
    Joined : ℕ → ℕ → Type 0
    Joined out_pad in_pad = AreJoined graph (record { filter = giver; pad = out_pad }) (record { filter = taker; pad = in_pad })

    Gives : ℕ → Media → Type 0
    Gives out_pad gives = (in_pad : ℕ) × (wants : Media) × (kind graph In taker in_pad ≡ Some wants) × Joined out_pad in_pad

    decide_gives : (out_pad : ℕ) (gives : Media) → Decided (Gives out_pad gives)
    decide_gives out_pad gives = decide_row (kinds In) graph.pads taker (λ in_pad wants. Joined out_pad in_pad) (λ in_pad wants. decide_joined _ _)

    back : TakesFrom graph giver taker → (out_pad : ℕ) × (gives : Media) × (kind graph Out giver out_pad ≡ Some gives) × Gives out_pad gives
    back is =
        let out = joined_giver_is_there graph fit.counted.small.each fit.counted.pads _ _ is.2 in
        let into = taker_there _ _ is.2 in
        (is.0, out.0, out.1, (is.1, into.0, into.1, is.2))

  decide_taken : (giver : Place) → Decided ((taker : Place) × AreJoined graph giver taker)
  decide_taken giver = decide_along
      (λ h. (record { filter = h.0; pad = h.1 }, h.4))
      (λ is. let into = taker_there giver is.0 is.1 in (is.0.filter, is.0.pad, into.0, into.1, is.1))
      (decide_item (kinds In) graph.pads (λ filter pad wants. AreJoined graph giver (record { filter = filter; pad = pad })) (λ filter pad wants. decide_joined giver _))

  -- the output pads that are left
  left_of : (givers : List Place) → ((a : Place) → Contains givers a → (gives : Media) × (kind graph Out a.filter a.pad ≡ Some gives)) → (outs : List OpenOut) × AreLeft graph givers outs
  left_of [] there = ([], tt)
  left_of (giver ∷ givers) there =
      let rest = left_of givers (λ a here. there a (Contains-append_right (giver ∷ []) givers a here)) in
      let gives = there giver (contained (giver ∷ givers) 0 giver refl) in
      elim (decide_taken giver) [
        | inl taken ↦ (rest.0, inl (taken, rest.1))
        | inr none ↦ (out_pad graph giver gives.0 ∷ rest.0, inr (λ taker joined. none (taker, joined), (gives.0, rest.0, gives.1, refl, rest.1)))
      ]

  -- ---- which files are left

  decide_named : (file : ℕ) → Decided (IsNamed graph file)
  decide_named file = decide_along
      (λ h. (record { filter = h.0; pad = h.1 }, h.4.0, h.4.1))
      (λ is. (is.0.filter, is.0.pad, is.2.name, is.2.is_label, (is.1, is.2)))
      (decide_item (labels In) graph.calls Names (λ filter pad name. decide_names (record { filter = filter; pad = pad }) file)) where
        Names : ℕ → ℕ → List ℕ → Type 0
        Names filter pad name = (said : Option Media) × NamesFile graph (record { filter = filter; pad = pad }) file said

  decide_left : (before : List Edge) (wanted : Media) (file : ℕ) → Decided (IsLeft graph before wanted file)
  decide_left before wanted file = decide_along
      (λ h. record { is_file = h.0.1 ∙ ap Some h.0.2; unnamed = h.1.0; untaken = h.1.1 })
      (λ is. ((wanted, is.is_file, refl), (is.unnamed, is.untaken)))
      (decide_both (decide_value (slice_get graph.files file) (λ gives. gives ≡ wanted) (λ gives. cases_Media gives wanted))
      (decide_both (decide_not (decide_named file)) (decide_not (decide_taken_file before file))))

  -- ---- links

  source_of : (before : List Edge) (taker : Place) → (wants : Media) × (kind graph In taker.filter taker.pad ≡ Some wants)
      → ((source : Source) × IsOrigin graph before taker source) ⊎ FindsNoFile graph before taker
  source_of before taker wants = let is = origin_of taker in by is.0 is.1 where
    by : (origin : Origin) → IsOriginOf graph taker origin → ((source : Source) × IsOrigin graph before taker source) ⊎ FindsNoFile graph before taker
    by (Pad giver) joined = inl (from.Filter giver.filter giver.pad, inl (giver, refl, joined))
    by (File file said) names = inl (from.Input file, inr (inl (file, said, refl, names)))
    by Open opened = elim (first_or_never (IsLeft graph before wants.0) (length graph.files) (λ file left. slice_get_within graph.files file wants.0 left.is_file) (decide_left before wants.0)) [
      | inl first ↦ inl (from.Input first.0, inr (inr (wants.0, first.0, refl, opened, wants.1, first.1)))
      | inr none ↦ inr (opened, (wants.0, wants.1, none))
    ]

  -- each input pad gets its link, or one finds none
  links_of : (before : List Edge) (takers : List Place) → ((a : Place) → Contains takers a → (wants : Media) × (kind graph In a.filter a.pad ≡ Some wants))
      → ((links : List Edge) × AreLinks graph before takers links) ⊎ ((filter pad : ℕ) × FindsNone graph before takers filter pad)
  links_of before [] there = inl ([], tt)
  links_of before (taker ∷ takers) there = elim (source_of before taker (there taker (contained (taker ∷ takers) 0 taker refl))) [
    | inr none ↦ inr (taker.filter, taker.pad, inl (refl, refl, none.0, none.1))
    | inl source ↦ elim (links_of (before ++ link_to taker source.0 ∷ []) takers (λ a here. there a (Contains-append_right (taker ∷ []) takers a here))) [
      | inl links ↦ inl (link_to taker source.0 ∷ links.0, ((source.0, refl, source.1), links.1))
      | inr none ↦ inr (none.0, none.1, inr (source.0, source.1, none.2))
    ]
  ]

  -- ---- the draft

  draft_of : (outputs : ℕ) → IsSound graph outputs → DraftOrFault graph outputs
  draft_of outputs sound = elim (cycle_or_order (TakesFrom graph) (length graph.calls) (takes_below graph) decide_takes) [
    | inl cycle ↦ inr (Cycle cycle.0, (sound, cycle.1))
    | inr order ↦ elim (links_of [] (pads_on graph In) (λ a here. places_item (kinds In) graph.pads a here)) [
      | inr none ↦ inr (OpenPad none.0 none.1, (sound, order.0, none.2))
      | inl links ↦ (
          let opens = left_of (pads_on graph Out) (λ a here. places_item (kinds Out) graph.pads a here) in
          inl (
            record { links = links.0; order = order.1.0; opens = opens.0 },
            record { sound = sound; draft_is = record { links = links.1; order = order.1.1; opens = opens.1 } },
          )
          )
    ]
  ]

-- ---- all faults in order

-- of a graph whose pads and labels fit together
fitting : (graph : Graph) (outputs : ℕ) → ¬ HasTooMany graph outputs → FitsTogether graph → DraftOrFault graph outputs
fitting graph outputs few fit = elim (scan_or_never graph (IsUnknown graph) (decide_unknown graph) (unknown_listed graph fit)) [
  | inl unknown ↦ inr (UnknownInput unknown.0, (few, fit.counted.pads, fit.labels, lowest_unknown graph unknown.0 unknown.1))
  | inr none ↦ (
      let known = never_unknown graph none in
      elim (scan_or_never graph (IsMismatched graph) (decide_mismatch graph fit known) (mismatch_listed graph fit)) [
        | inl mismatch ↦ inr (MediaMismatch mismatch.0, (few, fit.counted.pads, fit.labels, known, lowest_mismatch graph fit mismatch.0 mismatch.1))
        | inr agree ↦ draft_of graph fit known outputs (record { few = few; pads = fit.counted.pads; labels = fit.labels; inputs = known; kinds = never_mismatch graph fit agree })
      ]
      )
]

one_of_both : (graph : Graph) (outputs : ℕ) → IsSmall graph → DraftOrFault graph outputs
one_of_both graph outputs small = elim (decide_many graph outputs) [
  | inl many ↦ inr (TooManyLinks, many)
  | inr few ↦ elim (pads_first_or_never graph small) [
    | inl wrong ↦ inr (PadCount wrong.0, (few, wrong.1))
    | inr pads ↦ elim (labels_first_or_never graph) [
      | inl twice ↦ inr (LabelTwice twice.0, (few, pads, twice.1))
      | inr once ↦ fitting graph outputs few (record { counted = record { small = small; few = (outputs, few); pads = pads }; labels = once })
    ]
  ]
]

pub graphs_link_in_one_way : GraphsLinkInOneWay
graphs_link_in_one_way = record { one_draft = one_draft; one_fault = one_fault; not_both = not_both; one_of_both = one_of_both }
