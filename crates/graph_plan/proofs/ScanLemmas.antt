-- Input pads, gone through in order.
use Rattle.std.proofs.Common.{◌≡◌, ◌<◌, ◌≤◌, ◌+◌, ◌++◌, ℕ, List, [], ◌∷◌, Some, length, take, get_or, refl, sym, ◌∙◌, ap, subst, inl, inr, arith, below_more}
use Rattle.std.specs.Prelude.{All}
use Rattle.std.specs.List.{slice_get, Contains}
use Rattle.std.specs.Option.{option_map}
use Rattle.std.proofs.lemmas.Bool.{cases_order}
use Rattle.std.proofs.lemmas.List.{length-map, map_push, take_more, take_all}
use Rattle.std.proofs.lemmas.List.Elements.{All-push}
use Rattle.std.proofs.lemmas.Option.{same_Some, slice_get_within, slice_get-map, slice_get-get_or, get_or_from_slice_get}
use Rattle.av_base.specs.declared.formats.Media.{Media}
use Rattle.graph_plan.specs.declared.plan.Pads.{Pads}
use Rattle.graph_plan.specs.declared.places.Place.{Place}
use Rattle.graph_plan.specs.declared.places.Side.TheVariants.{In, Out}
use Rattle.graph_plan.specs.declared.origins.Origin.{Origin}
use Rattle.graph_plan.specs.declared.origins.Origin.TheVariants.{Pad, File, Open}
use Rattle.graph_plan.specs.declared.origins.Inlet.{Inlet}
use Rattle.av_base.specs.First.{IsFirst, Never}
use Rattle.av_base.proofs.Lists.{place_of}
use Rattle.av_base.proofs.Arithmetic.{first_along}
use Rattle.graph_plan.specs.Graphs.{Graph, kinds, label, kind, pads_on, SaysFile}
use Rattle.graph_plan.specs.Refusals.{HasUnknownInput, HasMismatch}
use Rattle.graph_plan.specs.Joining.{IsUnknown, IsOriginOf, IsInlet, takers, AreInlets, IsMismatched, FitsTogether}
use Rattle.graph_plan.proofs.GraphLemmas.{neighbour_in, item_places, places_rise, labelled_is_there, joined_taker_is_there}
use Rattle.graph_plan.proofs.TableLemmas.{not_lower}

-- what is read past the end of a list of places, and of input pads with their origins
abbrev pub no_place : Place
no_place = record { filter = 0; pad = 0 }

abbrev pub no_inlet : Inlet
no_inlet = record { taker = no_place; origin = Pad no_place }

-- the place of a filter's pad
abbrev place_at : ℕ → ℕ → Place
place_at filter pad = record { filter = filter; pad = pad }

-- some pad of the filter is such
abbrev pub HasSuch : (Place → Type 0) → ℕ → Type 0
HasSuch P filter = (pad : ℕ) × P (place_at filter pad)

-- the first such input pad is one of the lowest such filter
pub scan_first : (graph : Graph) (P : Place → Type 0) (k : ℕ) (a : Place) → ((b : Place) → P b → Contains (pads_on graph In) b) → slice_get (pads_on graph In) k ≡ Some a
    → ((j : ℕ) → j < k → (b : Place) → slice_get (pads_on graph In) j ≡ Some b → P b → ⊥) → P a → IsFirst (HasSuch P) a.filter
scan_first graph P k a there here none is = record {
  holds = (a.pad, is);
  none_before = λ other less such. (
      let b = place_at other such.0 in
      let at = place_of (pads_on graph In) b (there b such.1) in
      elim (cases_order at.0 k) [
        | inl same ↦ (
            let equal : b ≡ a = same_Some b a (sym at.2 ∙ (ap (slice_get (pads_on graph In)) same ∙ here)) in
            let filters = ap (λ (p : Place). p.filter) equal in omega arith
            )
        | inr apart ↦ elim apart [
          | inl lower ↦ none at.0 lower b at.2 such.1
          | inr higher ↦ not_lower a b (places_rise (λ (p : Pads). length (kinds In p)) 0 graph.pads k at.0 a b here at.2 higher) less
        ]
      ]
      );
}

pub scan_none : (graph : Graph) (P : Place → Type 0) (k : ℕ) → ((b : Place) → P b → Contains (pads_on graph In) b) → length (pads_on graph In) ≤ k
    → ((j : ℕ) → j < k → (b : Place) → slice_get (pads_on graph In) j ≡ Some b → P b → ⊥) → Never (HasSuch P)
scan_none graph P k there past none filter such =
    let b = place_at filter such.0 in
    let at = place_of (pads_on graph In) b (there b such.1) in
    none at.0 (omega (arith, at.1)) b at.2 such.1

-- one more that isn't such
pub scan_more : (graph : Graph) (P : Place → Type 0) (k : ℕ) (a : Place) → slice_get (pads_on graph In) k ≡ Some a
    → ((j : ℕ) → j < k → (b : Place) → slice_get (pads_on graph In) j ≡ Some b → P b → ⊥) → (P a → ⊥)
    → (j : ℕ) → j < k + 1 → (b : Place) → slice_get (pads_on graph In) j ≡ Some b → P b → ⊥
scan_more graph P k a here none not =
    let Q : ℕ → Type 0 = λ j. (b : Place) → slice_get (pads_on graph In) j ≡ Some b → P b → ⊥ in
    below_more Q k none (λ b is such. not (subst P (same_Some b a (sym is ∙ here)) such))

-- ---- what is such

module _ (graph : Graph) (fit : FitsTogether graph) where
  listed : (taker : Place) (wants : Media) → kind graph In taker.filter taker.pad ≡ Some wants → Contains (pads_on graph In) taker
  listed taker wants is = item_places (kinds In) graph.pads taker wants is

  pub unknown_listed : (taker : Place) → IsUnknown graph taker → Contains (pads_on graph In) taker
  unknown_listed taker is =
      let there = labelled_is_there graph fit.counted.small.each fit.counted.pads In taker.filter taker.pad is.name is.is_label in
      listed taker there.0 there.1

  pub mismatch_listed : (taker : Place) → IsMismatched graph taker → Contains (pads_on graph In) taker
  mismatch_listed taker (inl joined) =
      let there = joined_taker_is_there graph fit.counted.small.each fit.counted.pads joined.0 taker joined.1 in
      listed taker there.0 there.1
  mismatch_listed taker (inr named) =
      let there = labelled_is_there graph fit.counted.small.each fit.counted.pads In taker.filter taker.pad named.2.name named.2.is_label in
      listed taker there.0 there.1

-- what has an origin is known
pub origin_known : (graph : Graph) (taker : Place) (origin : Origin) → IsOriginOf graph taker origin → IsUnknown graph taker → ⊥
origin_known graph taker (Pad giver) (inl share) is =
    let P : List ℕ → Type 0 = λ name. label graph Out giver.filter giver.pad ≡ Some name in
    is.on_no_output giver.filter giver.pad (subst P (same_Some share.0 is.name (sym share.2 ∙ is.is_label)) share.1)
origin_known graph taker (Pad giver) (inr neighbours) is = let none = neighbour_in graph giver taker neighbours in let some = is.is_label in cc
origin_known graph taker (File file said) names is =
    let same = same_Some names.name is.name (sym names.is_label ∙ is.is_label) in
    let P : List ℕ → Type 0 = λ name. SaysFile name file said in
    is.names_none file said (subst P same names.says) names.is_file
origin_known graph taker Open opened is = let none = opened.unlabelled in let some = is.is_label in cc

unknown_has : (graph : Graph) (filter : ℕ) → HasSuch (IsUnknown graph) filter → HasUnknownInput graph filter
unknown_has graph filter is = record { pad = is.0; name = is.1.name; is_label = is.1.is_label; on_no_output = is.1.on_no_output; names_none = is.1.names_none }

has_unknown : (graph : Graph) (filter : ℕ) → HasUnknownInput graph filter → HasSuch (IsUnknown graph) filter
has_unknown graph filter is = (is.pad, record { name = is.name; is_label = is.is_label; on_no_output = is.on_no_output; names_none = is.names_none })

pub lowest_unknown : (graph : Graph) (filter : ℕ) → IsFirst (HasSuch (IsUnknown graph)) filter → IsFirst (HasUnknownInput graph) filter
lowest_unknown graph filter is = first_along (unknown_has graph) (has_unknown graph) is

pub never_unknown : (graph : Graph) → Never (HasSuch (IsUnknown graph)) → Never (HasUnknownInput graph)
never_unknown graph none filter is = none filter (has_unknown graph filter is)

module _ (graph : Graph) (fit : FitsTogether graph) where
  mismatch_has : (filter : ℕ) → HasSuch (IsMismatched graph) filter → HasMismatch graph filter
  mismatch_has filter (pad, inl joined) =
      let d = joined.2 in
      inl (record { giver = joined.0; pad = pad; joined = joined.1; gives = d.0; is_given = d.2; wants = d.1; is_wanted = d.3; differ = d.4 })
  mismatch_has filter (pad, inr named) = elim named.3 [
    | inl d ↦ inr (record { pad = pad; file = named.0; said = named.1; names = named.2; gives = d.0; is_given = d.2; wants = d.1; is_wanted = d.3; differ = inl d.4 })
    | inr e ↦ (
        let there = labelled_is_there graph fit.counted.small.each fit.counted.pads In filter pad named.2.name named.2.is_label in
        inr (record { pad = pad; file = named.0; said = named.1; names = named.2; gives = e.0; is_given = e.2; wants = there.0; is_wanted = there.1; differ = inr (e.1, e.3, e.4) })
        )
  ]

  has_mismatch : (filter : ℕ) → HasMismatch graph filter → HasSuch (IsMismatched graph) filter
  has_mismatch filter (inl is) = (is.pad, inl (is.giver, is.joined, (is.gives, is.wants, is.is_given, is.is_wanted, is.differ)))
  has_mismatch filter (inr is) = (
    is.pad,
    inr (
      is.file,
      is.said,
      is.names,
      elim is.differ [
        | inl other ↦ inl (is.gives, is.wants, is.is_given, is.is_wanted, other)
        | inr said ↦ inr (is.gives, said.0, is.is_given, said.1, said.2)
      ],
    ),
  )

  pub lowest_mismatch : (filter : ℕ) → IsFirst (HasSuch (IsMismatched graph)) filter → IsFirst (HasMismatch graph) filter
  lowest_mismatch filter is = first_along mismatch_has has_mismatch is

  pub never_mismatch : Never (HasSuch (IsMismatched graph)) → Never (HasMismatch graph)
  never_mismatch none filter is = none filter (has_mismatch filter is)

-- ---- input pads so far

-- the first input pads have their origin
pub record InletsSoFar (graph : Graph) (many : ℕ) (inlets : List Inlet) : Type 0 where
  pub are : takers inlets ≡ take many (pads_on graph In)
  pub each : All (IsInlet graph) inlets
  pub known : (j : ℕ) → j < many → (b : Place) → slice_get (pads_on graph In) j ≡ Some b → IsUnknown graph b → ⊥

pub inlets_none : (graph : Graph) → InletsSoFar graph 0 []
inlets_none graph = record { are = refl; each = λ k d low. absurd (omega arith); known = λ j low. absurd (omega arith) }

pub inlets_more : (graph : Graph) (many : ℕ) (inlets : List Inlet) (taker : Place) (origin : Origin) → slice_get (pads_on graph In) many ≡ Some taker → InletsSoFar graph many inlets
    → IsOriginOf graph taker origin → InletsSoFar graph (many + 1) (inlets ++ (record { taker = taker; origin = origin }) ∷ [])
inlets_more graph many inlets taker origin at is here =
    let inlet : Inlet = record { taker = taker; origin = origin } in
    let within = slice_get_within (pads_on graph In) many taker at in
    let last = get_or_from_slice_get (pads_on graph In) many taker taker at in record {
      are = map_push (λ (i : Inlet). i.taker) inlets inlet ∙ (ap (λ (xs : List Place). xs ++ taker ∷ []) is.are
          ∙ sym (take_more (pads_on graph In) many taker within ∙ ap (λ (x : Place). take many (pads_on graph In) ++ x ∷ []) last));
      each = All-push (IsInlet graph) inlets inlet is.each here;
      known = scan_more graph (IsUnknown graph) many taker at is.known (origin_known graph taker origin here);
    }

pub inlets_all : (graph : Graph) (many : ℕ) (inlets : List Inlet) → length (pads_on graph In) ≤ many → InletsSoFar graph many inlets → AreInlets graph inlets
inlets_all graph many inlets past is = record { are = is.are ∙ take_all many (pads_on graph In) past; each = is.each }

-- the input pad of an inlet
pub taker_at : (graph : Graph) (inlets : List Inlet) (k : ℕ) (d : Inlet) → AreInlets graph inlets → k < length inlets → slice_get (pads_on graph In) k ≡ Some (get_or inlets k d).taker
taker_at graph inlets k d are within =
    ap (λ (xs : List Place). slice_get xs k) (sym are.are) ∙ (slice_get-map (λ (i : Inlet). i.taker) inlets k ∙ ap (option_map (λ (i : Inlet). i.taker)) (slice_get-get_or inlets k d within))

pub inlet_count : (graph : Graph) (inlets : List Inlet) → AreInlets graph inlets → length (pads_on graph In) ≡ length inlets
inlet_count graph inlets are = ap length (sym are.are) ∙ length-map inlets (λ (i : Inlet). i.taker)
