-- Which faults of pads and labels a graph has, and where its input pads take from.
use Rattle.std.proofs.Common.{◌≡◌, ◌<◌, ◌+◌, ◌-◌, ◌⊎◌, ℕ, zero, suc, List, [], ◌∷◌, Option, Some, None, length, refl, ◌∙◌, ap, subst, inl, inr, arith}
use Rattle.std.specs.List.{slice_get, Contains}
use Rattle.std.specs.Str.Parse.{digits_value}
use Rattle.std.proofs.lemmas.Bool.{cases_eq, cases_lt}
use Rattle.std.proofs.lemmas.Option.{slice_get_within}
use Rattle.av_base.specs.declared.formats.Media.{Media}
use Rattle.av_base.specs.declared.formats.Media.TheVariants as media
use Rattle.av_base.specs.First.{IsFirst, Never}
use Rattle.av_base.proofs.Lists.{get_within}
use Rattle.av_text.specs.Classes.{is_digit}
use Rattle.av_text.proofs.TotalLemmas.{span}
use Rattle.av_text.proofs.NumberLemmas.{digits_of_run}
use Rattle.graph_text.specs.declared.graph.FilterCall.{FilterCall}
use Rattle.graph_plan.specs.declared.plan.Pads.{Pads}
use Rattle.graph_plan.specs.declared.places.Place.{Place}
use Rattle.graph_plan.specs.declared.places.Side.{Side}
use Rattle.graph_plan.specs.declared.places.Side.TheVariants.{In, Out}
use Rattle.graph_plan.specs.declared.origins.Origin.{Origin}
use Rattle.graph_plan.specs.declared.origins.Origin.TheVariants.{Pad, File, Open}
use Rattle.graph_plan.specs.Graphs.{Graph, IsBefore, labels, kinds, label, kind, pads_on, AreNeighbours, SaysKind, SaysFile}
use Rattle.graph_plan.specs.Graphs.SaysKind.{plain, video, first_video, audio, first_audio}
use Rattle.graph_plan.specs.Refusals.{link_count, HasTooMany, HasMoreLabels, LacksInput, HasWrongPads, IsTwice, IsOnOutput, HasLabelTwice, IsSmall}
use Rattle.graph_plan.specs.Joining.{IsUnknown, IsOriginOf}
use Rattle.graph_plan.proofs.ListLemmas.{cases_Option, cases_text}
use Rattle.graph_plan.proofs.GraphLemmas.{item_filter, says_once}
use Rattle.graph_plan.proofs.CountLemmas.{lacks_both, lacks_none, wrong_low}
use Rattle.graph_plan.proofs.OriginLemmas.{says_parts}
use Rattle.graph_plan.proofs.ScanLemmas.{HasSuch, scan_first, scan_none}
use Rattle.graph_plan.proofs.Decisions.{Decided, decide_both, decide_either, decide_along, decide_less, first_or_never, decide_value, decide_row, decide_item}

-- ---- labels and pads

pub decide_many : (graph : Graph) (outputs : ℕ) → Decided (HasTooMany graph outputs)
decide_many graph outputs = decide_less 1024 (link_count graph outputs)

in_or_out : (P : Side → Type 0) (side : Side) → P side → P In ⊎ P Out
in_or_out P In p = inl p
in_or_out P Out p = inr p

decide_side : (P : Side → Type 0) → ((side : Side) → Decided (P side)) → Decided ((side : Side) × P side)
decide_side P d = decide_along (λ h. elim h [ inl p ↦ (In, p) | inr p ↦ (Out, p) ]) (λ h. in_or_out P h.0 h.1) (decide_either (d In) (d Out))

decide_more : (graph : Graph) (filter : ℕ) → Decided (HasMoreLabels graph filter)
decide_more graph filter =
    let More : FilterCall → Pads → Side → Type 0 = λ call pads side. length (kinds side pads) < length (labels side call) in
    let MoreOf : FilterCall → Pads → Type 0 = λ call pads. (side : Side) × More call pads side in
    let MoreAt : FilterCall → Type 0 = λ call. (pads : Pads) × (slice_get graph.pads filter ≡ Some pads) × MoreOf call pads in
    decide_along
    (λ h. record { call = h.0; is_call = h.1; pads = h.2.0; are_pads = h.2.1; side = h.2.2.0; more = h.2.2.1 })
    (λ is. (is.call, is.is_call, (is.pads, is.are_pads, (is.side, is.more))))
    (decide_value (slice_get graph.calls filter) MoreAt (λ call. decide_value (slice_get graph.pads filter) (MoreOf call) (λ pads. decide_side (More call pads) (λ side. decide_less _ _))))

-- ---- the filter before

decide_lacks : (graph : Graph) → IsSmall graph → (filter : ℕ) → Decided (LacksInput graph filter)
decide_lacks graph small zero = inr (lacks_none graph)
decide_lacks graph small (suc before) = elim (cases_lt (suc before) (length graph.calls)) [
  | inr past ↦ inr (λ is. let low = wrong_low graph (suc before) (inr is) in omega arith)
  | inl low ↦ (
      let each = small.each in
      let first = get_within graph.calls before (omega arith) in
      let second = get_within graph.calls (suc before) low in
      let gives = get_within graph.pads before (omega arith) in
      let takes = get_within graph.pads (suc before) (omega arith) in
      let both = lacks_both graph before (suc before) first.0 second.0 gives.0 takes.0 (omega arith) first.1 second.1 gives.1 takes.1 in
      decide_along (λ h. both.0 h.0 h.1) both.1 (decide_both (cases_eq first.0.chain second.0.chain) (decide_less _ _))
      )
]

decide_pads : (graph : Graph) → IsSmall graph → (filter : ℕ) → Decided (HasWrongPads graph filter)
decide_pads graph small filter = decide_either (decide_more graph filter) (decide_lacks graph small filter)

pub pads_first_or_never : (graph : Graph) → IsSmall graph → ((filter : ℕ) × IsFirst (HasWrongPads graph) filter) ⊎ Never (HasWrongPads graph)
pads_first_or_never graph small = first_or_never (HasWrongPads graph) (length graph.calls) (wrong_low graph) (decide_pads graph small)

-- ---- labels that occur twice

pub decide_on_output : (graph : Graph) (name : List ℕ) → Decided (IsOnOutput graph name)
decide_on_output graph name = decide_along
    (λ h. (h.0, h.1, h.3 ∙ ap Some h.4))
    (λ is. (is.0, is.1, name, is.2, refl))
    (decide_item (labels Out) graph.calls (λ filter pad other. other ≡ name) (λ filter pad other. cases_text other name))

decide_before : (a b : Place) → Decided (IsBefore a b)
decide_before a b = decide_either (decide_less a.filter b.filter) (decide_both (cases_eq a.filter b.filter) (decide_less a.pad b.pad))

decide_twice : (graph : Graph) (side : Side) (Such : List ℕ → Type 0) → ((name : List ℕ) → Decided (Such name)) → (filter : ℕ) → Decided (IsTwice graph side Such filter)
decide_twice graph side Such d filter =
    let Before : ℕ → List ℕ → ℕ → ℕ → List ℕ → Type 0 = λ pad name first number other. (other ≡ name) × IsBefore (record { filter = first; pad = number }) (record { filter = filter; pad = pad }) in
    let Earlier : ℕ → List ℕ → Type 0 = λ pad name. (first number : ℕ) × (other : List ℕ) × (label graph side first number ≡ Some other) × Before pad name first number other in
    decide_along
    (λ h. record {
      name = h.1;
      such = h.3.0;
      pad = h.0;
      has = h.2;
      earlier = record { filter = h.3.1.0; pad = h.3.1.1 };
      has_too = h.3.1.3 ∙ ap Some h.3.1.4.0;
      before = h.3.1.4.1;
    })
    (λ is. (is.pad, is.name, is.has, (is.such, (is.earlier.filter, is.earlier.pad, is.name, is.has_too, (refl, is.before)))))
    (decide_row (labels side) graph.calls filter (λ pad name. Such name × Earlier pad name)
    (λ pad name. decide_both (d name) (decide_item (labels side) graph.calls (Before pad name)
    (λ first number other. decide_both (cases_text other name) (decide_before (record { filter = first; pad = number }) (record { filter = filter; pad = pad }))))))

decide_label : (graph : Graph) (filter : ℕ) → Decided (HasLabelTwice graph filter)
decide_label graph filter = decide_either (decide_twice graph Out (λ name. Unit {0}) (λ name. inl tt) filter) (decide_twice graph In (IsOnOutput graph) (decide_on_output graph) filter)

twice_low : (graph : Graph) (filter : ℕ) → HasLabelTwice graph filter → filter < length graph.calls
twice_low graph filter is = elim is [
  | inl twice ↦ item_filter (labels Out) graph.calls filter twice.pad twice.name twice.has
  | inr twice ↦ item_filter (labels In) graph.calls filter twice.pad twice.name twice.has
]

pub labels_first_or_never : (graph : Graph) → ((filter : ℕ) × IsFirst (HasLabelTwice graph) filter) ⊎ Never (HasLabelTwice graph)
labels_first_or_never graph = first_or_never (HasLabelTwice graph) (length graph.calls) (twice_low graph) (decide_label graph)

-- ---- labels of files

kind_cases : (suffix : List ℕ) → ((said : Option Media) × SaysKind suffix said) ⊎ ((said : Option Media) → SaysKind suffix said → ⊥)
kind_cases suffix = elim (cases_text [] suffix) [
  | inl same ↦ inl (None, says same plain)
  | inr some ↦ elim (cases_text (58 ∷ 118 ∷ []) suffix) [
    | inl same ↦ inl (Some media.Video, says same video)
    | inr no_v ↦ elim (cases_text (58 ∷ 118 ∷ 58 ∷ 48 ∷ []) suffix) [
      | inl same ↦ inl (Some media.Video, says same first_video)
      | inr no_v0 ↦ elim (cases_text (58 ∷ 97 ∷ []) suffix) [
        | inl same ↦ inl (Some media.Audio, says same audio)
        | inr no_a ↦ elim (cases_text (58 ∷ 97 ∷ 58 ∷ 48 ∷ []) suffix) [
          | inl same ↦ inl (Some media.Audio, says same first_audio)
          | inr no_a0 ↦ inr (λ said is. none suffix said is some no_v no_v0 no_a no_a0)
        ]
      ]
    ]
  ]
] where
  says : {text : List ℕ} {said : Option Media} → text ≡ suffix → SaysKind text said → SaysKind suffix said
  says {text} {said} same is = subst (λ (t : List ℕ). SaysKind t said) same is

  none : (text : List ℕ) (said : Option Media) → SaysKind text said → ¬ ([] ≡ text) → ¬ (58 ∷ 118 ∷ [] ≡ text) → ¬ (58 ∷ 118 ∷ 58 ∷ 48 ∷ [] ≡ text) → ¬ (58 ∷ 97 ∷ [] ≡ text)
      → ¬ (58 ∷ 97 ∷ 58 ∷ 48 ∷ [] ≡ text) → ⊥
  none _ _ plain a b c d e = a refl
  none _ _ video a b c d e = b refl
  none _ _ first_video a b c d e = c refl
  none _ _ audio a b c d e = d refl
  none _ _ first_audio a b c d e = e refl

-- a label says a file, or none
file_cases : (name : List ℕ) → ((file : ℕ) × (said : Option Media) × SaysFile name file said) ⊎ ((file : ℕ) (said : Option Media) → SaysFile name file said → ⊥)
file_cases name =
    let s = span is_digit name in
    let digits = digits_of_run s.0 s.2.each in
    elim (kind_cases s.1) [
      | inr none ↦ inr (λ file said says. none said (says_parts name s.0 s.1 s.2 file said says).1)
      | inl kind ↦ elim (decide_both (decide_less 0 (length s.0)) (decide_less (length s.0) 5)) [
        | inl fits ↦ inl (
          digits_value 10 s.0,
          kind.0,
          record {
            digits = s.0;
            suffix = s.1;
            name_is = s.2.text_is;
            number = record { digits = digits; enough = (let more = fits.0 in omega arith); few = (let few = fits.1 in omega arith); value = refl };
            kind_said = kind.1;
          },
        )
        | inr wrong ↦ inr (λ file said says. (
            let number = (says_parts name s.0 s.1 s.2 file said says).0 in
            wrong ((let enough = number.enough in omega arith), (let few = number.few in omega arith))
            ))
      ]
    ]

-- ---- where an input pad takes from

-- the output pad of the filter before it in its chain that gives to an input pad, if one does
neighbour_cases : (graph : Graph) (taker : Place) → ((giver : Place) × AreNeighbours graph giver taker) ⊎ ((giver : Place) → ¬ AreNeighbours graph giver taker)
neighbour_cases graph taker = elim (decide_row (kinds Out) graph.pads before Gives decide_gives) [
  | inl h ↦ inl (record { filter = before; pad = h.0 }, of h)
  | inr none ↦ inr (λ giver is. none (back giver is))
] where
  before : ℕ
  before = taker.filter - 1

  Second : FilterCall → ℕ → FilterCall → Type 0
  Second first pad second = (taker.filter ≡ before + 1) × (first.chain ≡ second.chain) × (length first.outs < pad + 1) × (taker.pad + length first.outs ≡ pad + length second.ins)

  First : ℕ → FilterCall → Type 0
  First pad first = (second : FilterCall) × (slice_get graph.calls taker.filter ≡ Some second) × Second first pad second

  Gives : ℕ → Media → Type 0
  Gives pad gives = (first : FilterCall) × (slice_get graph.calls before ≡ Some first) × First pad first

  decide_second : (first : FilterCall) (pad : ℕ) (second : FilterCall) → Decided (Second first pad second)
  decide_second first pad second = decide_along (λ h. (h.0.0, h.0.1, h.1.0, h.1.1)) (λ h. ((h.0, h.1), (h.2, h.3)))
      (decide_both (decide_both (cases_eq _ _) (cases_eq _ _)) (decide_both (decide_less _ _) (cases_eq _ _)))

  decide_gives : (pad : ℕ) (gives : Media) → Decided (Gives pad gives)
  decide_gives pad gives = decide_value (slice_get graph.calls before) (First pad) (λ first. decide_value (slice_get graph.calls taker.filter) (Second first pad) (decide_second first pad))

  of : (h : (pad : ℕ) × (gives : Media) × (kind graph Out before pad ≡ Some gives) × Gives pad gives) → AreNeighbours graph (record { filter = before; pad = h.0 }) taker
  of h =
      let f = h.3 in
      let s = f.2 in
      let is = s.2 in record {
        first = f.0;
        is_first = f.1;
        second = s.0;
        is_second = s.1;
        next = is.0;
        chain = is.1;
        nth = h.0 - length f.0.outs;
        giver_is = (let past = is.2 in omega arith);
        taker_is = (let past = is.2 in let same = is.3 in omega arith);
        gives = h.1;
        is_there = h.2;
      }

  back : (giver : Place) → AreNeighbours graph giver taker → (pad : ℕ) × (gives : Media) × (kind graph Out before pad ≡ Some gives) × Gives pad gives
  back giver is =
      let at : giver.filter ≡ before = (let next = is.next in omega arith) in
      let P : ℕ → Type 0 = λ f. kind graph Out f giver.pad ≡ Some is.gives in
      let Q : ℕ → Type 0 = λ f. slice_get graph.calls f ≡ Some is.first in (
        giver.pad,
        is.gives,
        subst P at is.is_there,
        (
          is.first,
          subst Q at is.is_first,
          (
            is.second,
            is.is_second,
            (
              (let next = is.next in omega arith),
              is.chain,
              (let g = is.giver_is in omega arith),
              (let g = is.giver_is in let t = is.taker_is in omega arith),
            ),
          ),
        ),
      )

-- an input pad has an origin, or its label is unknown
pub origin_cases : (graph : Graph) (taker : Place) → ((origin : Origin) × IsOriginOf graph taker origin) ⊎ IsUnknown graph taker
origin_cases graph taker = elim (cases_Option (label graph In taker.filter taker.pad)) [
  | inr bare ↦ elim (neighbour_cases graph taker) [
    | inl giver ↦ inl (Pad giver.0, inr giver.1)
    | inr alone ↦ inl (Open, record { unlabelled = bare; alone = alone })
  ]
  | inl labelled ↦ elim (decide_on_output graph labelled.0) [
    | inl on ↦ inl (Pad (record { filter = on.0; pad = on.1 }), inl (labelled.0, on.2, labelled.1))
    | inr off ↦ named labelled.0 labelled.1 (λ filter pad has. off (filter, pad, has)) (file_cases labelled.0)
  ]
] where
  named : (name : List ℕ) → label graph In taker.filter taker.pad ≡ Some name → ((filter pad : ℕ) → ¬ (label graph Out filter pad ≡ Some name))
      → ((file : ℕ) × (said : Option Media) × SaysFile name file said) ⊎ ((file : ℕ) (said : Option Media) → SaysFile name file said → ⊥)
      → ((origin : Origin) × IsOriginOf graph taker origin) ⊎ IsUnknown graph taker
  named name labelled off (inr none) = inr (record { name = name; is_label = labelled; on_no_output = off; names_none = λ file said says. absurd (none file said says) })
  named name labelled off (inl says) = elim (cases_lt says.0 (length graph.files)) [
    | inl low ↦ inl (File says.0 says.1, record { name = name; is_label = labelled; on_no_output = off; says = says.2; is_file = low })
    | inr past ↦ inr (record {
      name = name;
      is_label = labelled;
      on_no_output = off;
      names_none = λ file said other. (
          let same = (says_once name says.0 file says.1 said says.2 other).0 in
          λ low. omega arith
          );
    })
  ]

-- ---- the first such input pad

-- there is a first filter with such an input pad, or there is none
pub scan_or_never : (graph : Graph) (P : Place → Type 0) → ((taker : Place) → Decided (P taker)) → ((taker : Place) → P taker → Contains (pads_on graph In) taker)
    → ((filter : ℕ) × IsFirst (HasSuch P) filter) ⊎ Never (HasSuch P)
scan_or_never graph P d there =
    let takers = pads_on graph In in
    let At : ℕ → Type 0 = λ k. (taker : Place) × (slice_get takers k ≡ Some taker) × P taker in
    elim (first_or_never At (length takers) (λ k h. slice_get_within takers k h.0 h.1) (λ k. decide_value (slice_get takers k) P d)) [
      | inl first ↦ (
          let at = first.1.holds in
          inl (at.0.filter, scan_first graph P first.0 at.0 there at.1 (λ j less b is such. first.1.none_before j less (b, is, such)) at.2)
          )
      | inr none ↦ inr (scan_none graph P (length takers) there (omega arith) (λ j less b is such. none j (b, is, such)))
    ]
