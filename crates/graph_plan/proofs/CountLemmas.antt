-- Labels and pads of a filter, and of the one before it in its chain.
use Rattle.std.proofs.Common.{◌≡◌, ◌<◌, ◌≤◌, ◌+◌, ◌-◌, ◌⊎◌, ◌++◌, ℕ, List, Some, None, length, take, get_or, sum_by, refl, sym, ◌∙◌, ap, subst, inl, inr, arith}
use Rattle.std.specs.List.{slice_get}
use Rattle.std.proofs.lemmas.Bool.{cases_lt}
use Rattle.std.proofs.lemmas.List.{length-take-le, take_more}
use Rattle.graph_plan.proofs.GraphLemmas.{places_push, item_is}
use Rattle.std.proofs.lemmas.Option.{same_Some, slice_get_within, slice_get_past, get_or_from_slice_get}
use Rattle.graph_text.specs.declared.graph.FilterCall.{FilterCall}
use Rattle.graph_plan.specs.declared.plan.Pads.{Pads}
use Rattle.graph_plan.specs.declared.places.Side.{Side}
use Rattle.graph_plan.specs.declared.places.Side.TheVariants.{In, Out}
use Rattle.graph_plan.specs.Graphs.{Graph, places, places_of, labels, kinds, kind}
use Rattle.graph_plan.specs.Refusals.{HasMoreLabels, LacksInput, HasWrongPads, link_count}
use Rattle.graph_plan.specs.Joining.{IsCounted}
use Rattle.std.proofs.lemmas.List.Sums.{sum_by_more_le}
use Rattle.av_base.proofs.Lists.{get_within}

-- if there is no element at a place, the list ends before it
past_none : {X : Type 0} (xs : List X) (k : ℕ) → slice_get xs k ≡ None → length xs ≤ k
past_none xs k none = elim (cases_lt k (length xs)) [
  | inl low ↦ absurd (let here = get_within xs k low in let is = here.1 in cc)
  | inr past ↦ omega arith
]

-- ---- the filter before

module _ (graph : Graph) (before : ℕ) (first second : FilterCall) (gives takes : Pads) (is_first : slice_get graph.calls before ≡ Some first)
    (is_second : slice_get graph.calls (before + 1) ≡ Some second) (are_gives : slice_get graph.pads before ≡ Some gives) (are_takes : slice_get graph.pads (before + 1) ≡ Some takes) where
  pub lacks : first.chain ≡ second.chain → length (kinds In takes) - length (labels In second) < length (kinds Out gives) - length (labels Out first) → LacksInput graph (before + 1)
  lacks chain more =
      let nth = length takes.ins - length second.ins in
      let there = get_within gives.outs (length first.outs + nth) (omega arith) in record {
        giver = record { filter = before; pad = length first.outs + nth };
        pad = length second.ins + nth;
        neighbours = record {
          first = first;
          is_first = is_first;
          second = second;
          is_second = is_second;
          next = refl;
          chain = chain;
          nth = nth;
          giver_is = refl;
          taker_is = refl;
          gives = there.0;
          is_there = item_is (kinds Out) graph.pads before (length first.outs + nth) gives are_gives ∙ there.1;
        };
        missing = item_is (kinds In) graph.pads (before + 1) (length second.ins + nth) takes are_takes ∙ slice_get_past takes.ins (length second.ins + nth) (omega arith);
      }

  pub lacks_why : LacksInput graph (before + 1) → (first.chain ≡ second.chain) × (length (kinds In takes) - length (labels In second) < length (kinds Out gives) - length (labels Out first))
  lacks_why is =
      let n = is.neighbours in
      let next = n.next in
      let at : is.giver.filter ≡ before = omega arith in
      let one : n.first ≡ first = same_Some _ _ (sym n.is_first ∙ (ap (λ (k : ℕ). slice_get graph.calls k) at ∙ is_first)) in
      let two : n.second ≡ second = same_Some _ _ (sym n.is_second ∙ is_second) in
      let there : slice_get gives.outs is.giver.pad ≡ Some n.gives =
      sym (item_is (kinds Out) graph.pads before is.giver.pad gives are_gives) ∙ (ap (λ (k : ℕ). kind graph Out k is.giver.pad) (sym at) ∙ n.is_there) in
      let within = slice_get_within gives.outs is.giver.pad n.gives there in
      let past = past_none takes.ins is.pad (sym (item_is (kinds In) graph.pads (before + 1) is.pad takes are_takes) ∙ is.missing) in
      let giver = n.giver_is in
      let taker = n.taker_is in
      let outs : length n.first.outs ≡ length first.outs = ap (λ (c : FilterCall). length c.outs) one in
      let ins : length n.second.ins ≡ length second.ins = ap (λ (c : FilterCall). length c.ins) two in
      (ap (λ (c : FilterCall). c.chain) (sym one) ∙ (n.chain ∙ ap (λ (c : FilterCall). c.chain) two), omega arith)

pub lacks_both : (graph : Graph) (before filter : ℕ) (first second : FilterCall) (gives takes : Pads) → filter ≡ before + 1 → slice_get graph.calls before ≡ Some first
    → slice_get graph.calls filter ≡ Some second → slice_get graph.pads before ≡ Some gives → slice_get graph.pads filter ≡ Some takes
    → (first.chain ≡ second.chain → length (kinds In takes) - length (labels In second) < length (kinds Out gives) - length (labels Out first) → LacksInput graph filter)
    × (LacksInput graph filter → (first.chain ≡ second.chain) × (length (kinds In takes) - length (labels In second) < length (kinds Out gives) - length (labels Out first)))
lacks_both graph before filter first second gives takes up is_first is_second are_gives are_takes = subst P (sym up) both is_second are_takes where
  P : ℕ → Type 0
  P f = slice_get graph.calls f ≡ Some second → slice_get graph.pads f ≡ Some takes
      → (first.chain ≡ second.chain → length (kinds In takes) - length (labels In second) < length (kinds Out gives) - length (labels Out first) → LacksInput graph f)
      × (LacksInput graph f → (first.chain ≡ second.chain) × (length (kinds In takes) - length (labels In second) < length (kinds Out gives) - length (labels Out first)))

  both : P (before + 1)
  both second_is takes_are = (
    lacks graph before first second gives takes is_first second_is are_gives takes_are,
    lacks_why graph before first second gives takes is_first second_is are_gives takes_are,
  )

-- the first filter has none before it
pub lacks_none : (graph : Graph) → LacksInput graph 0 → ⊥
lacks_none graph is = let next = is.neighbours.next in omega arith

-- ---- labels and pads

pub more_labels : (graph : Graph) (filter : ℕ) (call : FilterCall) (pads : Pads) (side : Side) → slice_get graph.calls filter ≡ Some call → slice_get graph.pads filter ≡ Some pads
    → length (kinds side pads) < length (labels side call) → HasWrongPads graph filter
more_labels graph filter call pads side is_call are_pads more = inl (record { call = call; is_call = is_call; pads = pads; are_pads = are_pads; side = side; more = more })

pub more_labels_why : (graph : Graph) (filter : ℕ) (call : FilterCall) (pads : Pads) → slice_get graph.calls filter ≡ Some call → slice_get graph.pads filter ≡ Some pads
    → HasMoreLabels graph filter → (length (kinds In pads) < length (labels In call)) ⊎ (length (kinds Out pads) < length (labels Out call))
more_labels_why graph filter call pads is_call are_pads is = by is.side (subst Q two (subst P one is.more)) where
  one : is.call ≡ call
  one = same_Some _ _ (sym is.is_call ∙ is_call)

  two : is.pads ≡ pads
  two = same_Some _ _ (sym is.are_pads ∙ are_pads)

  P : FilterCall → Type 0
  P c = length (kinds is.side is.pads) < length (labels is.side c)

  Q : Pads → Type 0
  Q p = length (kinds is.side p) < length (labels is.side call)

  by : (side : Side) → length (kinds side pads) < length (labels side call) → (length (kinds In pads) < length (labels In call)) ⊎ (length (kinds Out pads) < length (labels Out call))
  by In more = inl more
  by Out more = inr more

-- only a filter that is there has wrong pads
pub wrong_low : (graph : Graph) (filter : ℕ) → HasWrongPads graph filter → filter < length graph.calls
wrong_low graph filter is = elim is [
  | inl more ↦ slice_get_within graph.calls filter more.call more.is_call
  | inr lacks ↦ slice_get_within graph.calls filter lacks.neighbours.second lacks.neighbours.is_second
]

-- ---- places so far

-- the places of one more filter
pub places_more : {X : Type 0} (count : X → ℕ) (xs : List X) (index : ℕ) (d : X) → index < length xs
    → places count 0 (take (index + 1) xs) ≡ places count 0 (take index xs) ++ places_of index 0 (count (get_or xs index d))
places_more {X} count xs index d within =
    let many : length (take index xs) ≡ index = length-take-le index xs (omega arith) in
    ap (places count 0) (take_more xs index d within) ∙ (places_push count (take index xs) (get_or xs index d)
    ∙ ap (λ (n : ℕ). places count 0 (take index xs) ++ places_of n 0 (count (get_or xs index d))) many)

-- ---- few pads and labels

-- one of these is no more than all together
sum_of : (pads : List Pads) (filter : ℕ) (p : Pads) → slice_get pads filter ≡ Some p → length p.ins ≤ sum_by (λ (q : Pads). length q.ins) pads
sum_of pads filter p is =
    let within = slice_get_within pads filter p is in
    let more = sum_by_more_le (λ (q : Pads). length q.ins) pads filter p within in
    let here = ap (λ (q : Pads). length q.ins) (get_or_from_slice_get pads filter p p is) in
    omega arith

pub pads_few : (graph : Graph) → IsCounted graph → (side : Side) (filter : ℕ) (pads : Pads) → slice_get graph.pads filter ≡ Some pads → length (kinds side pads) ≤ 4294967296
pads_few graph counted In filter pads is = let one = sum_of graph.pads filter pads is in let few = counted.few.1 in elim (cases_lt 1024 (link_count graph counted.few.0)) [
  | inl many ↦ absurd (few many)
  | inr low ↦ omega arith
]
pads_few graph counted Out filter pads is =
    let within = slice_get_within graph.pads filter pads is in
    let small = counted.small.outs filter pads within in
    let here = ap (λ (q : Pads). length q.outs) (get_or_from_slice_get graph.pads filter pads pads is) in
    omega arith

pub labels_few : (graph : Graph) → IsCounted graph → (side : Side) (filter : ℕ) (call : FilterCall) → slice_get graph.calls filter ≡ Some call → length (labels side call) ≤ 4294967296
labels_few graph counted side filter call is =
    let within = slice_get_within graph.calls filter call is in
    let each = counted.small.each in
    let there = get_within graph.pads filter (omega arith) in
    let few = pads_few graph counted side filter there.0 there.1 in
    elim (cases_lt (length (kinds side there.0)) (length (labels side call))) [
      | inl more ↦ absurd (counted.pads filter (more_labels graph filter call there.0 side is there.1 more))
      | inr fit ↦ omega arith
    ]
