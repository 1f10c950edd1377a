-- Pads and labels by their places, and what joins them.
use Rattle.std.proofs.Common.{◌≡◌, ◌==◌, cond, ◌<◌, ◌≤◌, ◌+◌, ◌++◌, ◌⊎◌, ℕ, zero, suc, List, [], ◌∷◌, Option, Some, None, length, refl, sym, ◌∙◌, ap, subst, inl, inr, arith, add-one, append_assoc}
use Rattle.std.specs.List.{slice_get, Contains}
use Rattle.std.specs.Char.{digit_value}
use Rattle.std.specs.Str.Parse.{AllDigits, digits_value}
use Rattle.std.proofs.lemmas.Bool.{cases_order, cases_lt}
use Rattle.std.proofs.lemmas.List.{append-nil}
use Rattle.std.proofs.lemmas.Option.{same_Some, slice_get_within}
use Rattle.av_base.specs.declared.formats.Media.{Media}
use Rattle.av_base.specs.declared.formats.Media.TheVariants as media
use Rattle.graph_text.specs.declared.graph.FilterCall.{FilterCall}
use Rattle.graph_plan.specs.declared.plan.Edge.{Edge}
use Rattle.graph_plan.specs.declared.plan.Source.{Source}
use Rattle.graph_plan.specs.declared.plan.Source.TheVariants as from
use Rattle.graph_plan.specs.declared.places.Place.{Place}
use Rattle.graph_plan.specs.declared.places.Side.{Side}
use Rattle.graph_plan.specs.declared.places.Side.TheVariants.{In, Out}
use Rattle.av_base.specs.First.{IsFirst, Never}
use Rattle.av_base.proofs.Lists.{get_within, contained, place_of, append_get, append_get_left, append_get_right}
use Rattle.av_base.proofs.Arithmetic.{first_same}
use Rattle.graph_plan.specs.Graphs.{Graph, item_of, item, places_of, places, IsBefore, labels, kinds, label, kind, AreNeighbours, AreJoined, SaysKind, SaysFile, NamesFile, IsOpen}
use Rattle.graph_plan.specs.Graphs.SaysKind.{plain, video, first_video, audio, first_audio}
use Rattle.graph_plan.specs.Links.{IsLeft, IsOrigin}
use Rattle.graph_plan.specs.Refusals.{HasWrongPads, IsOnOutput, HasLabelTwice}
use Rattle.graph_plan.proofs.ListLemmas.{cases_Option}

-- ---- items of a filter's list

item_of_at : {X Y : Type 0} (list : X → List Y) (o : Option X) (number : ℕ) (y : Y) → item_of list o number ≡ Some y → (x : X) × (o ≡ Some x) × (slice_get (list x) number ≡ Some y)
item_of_at list None number y e = absurd (cc)
item_of_at list (Some x) number y e = (x, refl, e)

-- an item that is there is one of a filter's list
pub item_at : {X Y : Type 0} (list : X → List Y) (xs : List X) (filter number : ℕ) (y : Y) → item list xs filter number ≡ Some y
    → (x : X) × (slice_get xs filter ≡ Some x) × (slice_get (list x) number ≡ Some y)
item_at list xs filter number y e = item_of_at list (slice_get xs filter) number y e

pub item_is : {X Y : Type 0} (list : X → List Y) (xs : List X) (filter number : ℕ) (x : X) → slice_get xs filter ≡ Some x → item list xs filter number ≡ slice_get (list x) number
item_is {X} list xs filter number x e = ap (λ (o : Option X). item_of list o number) e

-- an item that is there has a filter's number
pub item_filter : {X Y : Type 0} (list : X → List Y) (xs : List X) (filter number : ℕ) (y : Y) → item list xs filter number ≡ Some y → filter < length xs
item_filter list xs filter number y e = let at = item_at list xs filter number y e in slice_get_within xs filter at.0 at.1

-- and a number below the length of the filter's list
pub item_number : {X Y : Type 0} (list : X → List Y) (xs : List X) (filter number : ℕ) (x : X) (y : Y) → slice_get xs filter ≡ Some x → item list xs filter number ≡ Some y → number < length (list x)
item_number list xs filter number x y at e = slice_get_within (list x) number y (sym (item_is list xs filter number x at) ∙ e)

-- a number that isn't below it has no item
pub item_past : {X Y : Type 0} (list : X → List Y) (xs : List X) (filter number : ℕ) (x : X) → slice_get xs filter ≡ Some x → length (list x) ≤ number → item list xs filter number ≡ None
item_past list xs filter number x at past = elim (cases_Option (item list xs filter number)) [
  | inl there ↦ absurd (let low = item_number list xs filter number x there.0 at there.1 in omega arith)
  | inr none ↦ none
]

-- ---- places in order

pub same_place : (a b : Place) → a.filter ≡ b.filter → a.pad ≡ b.pad → a ≡ b
same_place a b p q =
    let filters : a ≡ record { filter = b.filter; pad = a.pad } = ap (λ (n : ℕ). let x : Place = record { filter = n; pad = a.pad } in x) p in
    filters ∙ ap (λ (n : ℕ). let x : Place = record { filter = b.filter; pad = n } in x) q

-- the one comes before the other, or they are the same
pub cases_place : (a b : Place) → (a ≡ b) ⊎ (IsBefore a b ⊎ IsBefore b a)
cases_place a b = elim (cases_order a.filter b.filter) [
  | inl same ↦ elim (cases_order a.pad b.pad) [
    | inl one ↦ inl (same_place a b same one)
    | inr apart ↦ elim apart [ inl less ↦ inr (inl (inr (same, less))) | inr more ↦ inr (inr (inr (sym same, more))) ]
  ]
  | inr apart ↦ elim apart [ inl less ↦ inr (inl (inl less)) | inr more ↦ inr (inr (inl more)) ]
]

-- no place comes before itself
pub not_before_itself : (a : Place) → IsBefore a a → ⊥
not_before_itself a before = elim before [ inl less ↦ omega arith | inr less ↦ (let low = less.1 in omega arith) ]

-- ---- lists of places

pub length-places_of : (filter pad count : ℕ) → length (places_of filter pad count) ≡ count
length-places_of filter pad zero = refl
length-places_of filter pad (suc count) = ap suc (length-places_of filter (pad + 1) count)

-- the place at a number
pub places_of_at : (filter pad count k : ℕ) → k < count → slice_get (places_of filter pad count) k ≡ Some (record { filter = filter; pad = pad + k })
places_of_at filter pad zero k low = absurd (omega arith)
places_of_at filter pad (suc count) zero low = let e : pad ≡ pad + 0 = omega arith in ap (λ (n : ℕ). let x : Option Place = Some (record { filter = filter; pad = n }) in x) e
places_of_at filter pad (suc count) (suc k) low =
    let e : pad + 1 + k ≡ pad + suc k = omega arith in
    places_of_at filter (pad + 1) count k (omega arith) ∙ ap (λ (n : ℕ). let x : Option Place = Some (record { filter = filter; pad = n }) in x) e

-- a place of them has the filter, and its number is the first plus its index
pub places_of_get : (filter pad count k : ℕ) (a : Place) → slice_get (places_of filter pad count) k ≡ Some a → (a.filter ≡ filter) × (a.pad ≡ pad + k) × (k < count)
places_of_get filter pad count k a e =
    let within = slice_get_within (places_of filter pad count) k a e in
    let low : k < count = omega (arith, length-places_of filter pad count) in
    let same : a ≡ record { filter = filter; pad = pad + k } = same_Some a (record { filter = filter; pad = pad + k }) (sym e ∙ places_of_at filter pad count k low) in
    (ap (λ (p : Place). p.filter) same, ap (λ (p : Place). p.pad) same, low)

-- one more pad
pub places_of_more : (filter pad count : ℕ) → places_of filter pad (count + 1) ≡ places_of filter pad count ++ (record { filter = filter; pad = pad + count }) ∷ []
places_of_more filter pad zero = let e : pad ≡ pad + 0 = omega arith in ap (λ (n : ℕ). let x : List Place = (record { filter = filter; pad = n }) ∷ [] in x) e
places_of_more filter pad (suc count) =
    let e : pad + 1 + count ≡ pad + suc count = omega arith in
    let P : ℕ → Type 0 = λ n. places_of filter (pad + 1) (count + 1) ≡ places_of filter (pad + 1) count ++ (record { filter = filter; pad = n }) ∷ [] in
    let more = subst P e (places_of_more filter (pad + 1) count) in
    let one : count + 1 ≡ suc count = add-one count in
    rw add-one (ap (λ (ps : List Place). (let x : Place = record { filter = filter; pad = pad } in x) ∷ ps) (rw one at more))

-- the places of further filters come after
pub places_append : {X : Type 0} (count : X → ℕ) (filter : ℕ) (xs ys : List X) → places count filter (xs ++ ys) ≡ places count filter xs ++ places count (filter + length xs) ys
places_append count filter [] ys = let e : filter ≡ filter + 0 = omega arith in ap (λ (n : ℕ). places count n ys) e
places_append count filter (x ∷ xs) ys =
    let e : filter + 1 + length xs ≡ filter + length (x ∷ xs) = omega arith in
    let P : ℕ → Type 0 = λ n. places count (filter + 1) (xs ++ ys) ≡ places count (filter + 1) xs ++ places count n ys in
    rw append_assoc (ap (λ (ps : List Place). places_of filter 0 (count x) ++ ps) (subst P e (places_append count (filter + 1) xs ys)))

-- those of one more filter
pub places_push : {X : Type 0} (count : X → ℕ) (xs : List X) (x : X) → places count 0 (xs ++ x ∷ []) ≡ places count 0 xs ++ places_of (length xs) 0 (count x)
places_push count xs x =
    let e : 0 + length xs ≡ length xs = omega arith in
    places_append count 0 xs (x ∷ []) ∙ ap (λ (ps : List Place). places count 0 xs ++ ps) (append-nil (places_of (0 + length xs) 0 (count x)) ∙ ap (λ (n : ℕ). places_of n 0 (count x)) e)

-- a place of these filters is a pad of one of them
pub places_filter : {X : Type 0} (count : X → ℕ) (filter : ℕ) (xs : List X) (k : ℕ) (a : Place) → slice_get (places count filter xs) k ≡ Some a
    → (i : ℕ) × (x : X) × (a.filter ≡ filter + i) × (slice_get xs i ≡ Some x) × (a.pad < count x)
places_filter count filter [] k a e = absurd (cc)
places_filter count filter (x ∷ xs) k a e = elim (append_get (places_of filter 0 (count x)) (places count (filter + 1) xs) k a e) [
  | inl here ↦ (let at = places_of_get filter 0 (count x) k a here in (0, x, (let f = at.0 in omega arith), refl, (let low = at.2 in let same = at.1 in omega arith)))
  | inr rest ↦ (let more = places_filter count (filter + 1) xs rest.0 a rest.2 in (suc more.0, more.1, (let f = more.2 in omega arith), more.3, more.4))
]

-- and each pad of one of them is one of the places
pub places_has : {X : Type 0} (count : X → ℕ) (filter : ℕ) (xs : List X) (i : ℕ) (x : X) (a : Place) → a.filter ≡ filter + i → slice_get xs i ≡ Some x → a.pad < count x
    → (k : ℕ) × (slice_get (places count filter xs) k ≡ Some a)
places_has count filter [] i x a f at low = absurd (cc)
places_has {X} count filter (y ∷ xs) zero x a f at low =
    let same : y ≡ x = same_Some y x at in
    let less : a.pad < count y = subst (λ (z : X). a.pad < count z) (sym same) low in
    let here : a ≡ record { filter = filter; pad = 0 + a.pad } = same_place a (record { filter = filter; pad = 0 + a.pad }) (omega arith) (omega arith) in
    (a.pad, append_get_left (places_of filter 0 (count y)) (places count (filter + 1) xs) a.pad a (places_of_at filter 0 (count y) a.pad less ∙ ap Some (sym here)))
places_has count filter (y ∷ xs) (suc i) x a f at low =
    let more = places_has count (filter + 1) xs i x a (omega arith) at low in
    (length (places_of filter 0 (count y)) + more.0, append_get_right (places_of filter 0 (count y)) (places count (filter + 1) xs) more.0 ∙ more.1)

-- places rise
pub places_rise : {X : Type 0} (count : X → ℕ) (filter : ℕ) (xs : List X) (i j : ℕ) (a b : Place) → slice_get (places count filter xs) i ≡ Some a → slice_get (places count filter xs) j ≡ Some b → i < j → IsBefore a b
places_rise count filter [] i j a b p q less = absurd (cc)
places_rise count filter (x ∷ xs) i j a b p q less = rise (append_get (places_of filter 0 (count x)) rest i a p) (append_get (places_of filter 0 (count x)) rest j b q) (λ (k l : ℕ). places_rise count (filter + 1) xs k l a b) where
  rest : List Place
  rest = places count (filter + 1) xs

  rise : (slice_get (places_of filter 0 (count x)) i ≡ Some a) ⊎ ((k : ℕ) × (i ≡ length (places_of filter 0 (count x)) + k) × (slice_get rest k ≡ Some a))
      → (slice_get (places_of filter 0 (count x)) j ≡ Some b) ⊎ ((l : ℕ) × (j ≡ length (places_of filter 0 (count x)) + l) × (slice_get rest l ≡ Some b))
      → ((k l : ℕ) → slice_get rest k ≡ Some a → slice_get rest l ≡ Some b → k < l → IsBefore a b) → IsBefore a b
  rise (inl u) (inl v) more =
      let first = places_of_get filter 0 (count x) i a u in
      let second = places_of_get filter 0 (count x) j b v in
      inr (first.0 ∙ sym second.0, (let m = first.1 in let n = second.1 in omega arith))
  rise (inl u) (inr v) more =
      let first = places_of_get filter 0 (count x) i a u in
      let second = places_filter count (filter + 1) xs v.0 b v.2 in
      inl (let m = first.0 in let n = second.2 in omega arith)
  rise (inr u) (inl v) more = absurd (let within = slice_get_within (places_of filter 0 (count x)) j b v in let e = u.1 in omega arith)
  rise (inr u) (inr v) more = more u.0 v.0 u.2 v.2 (let m = u.1 in let n = v.1 in omega arith)

-- a place occurs once
pub places_once : {X : Type 0} (count : X → ℕ) (filter : ℕ) (xs : List X) (i j : ℕ) (a : Place) → slice_get (places count filter xs) i ≡ Some a → slice_get (places count filter xs) j ≡ Some a → i ≡ j
places_once count filter xs i j a p q = elim (cases_order i j) [
  | inl same ↦ same
  | inr apart ↦ elim apart [
    | inl less ↦ absurd (not_before_itself a (places_rise count filter xs i j a a p q less))
    | inr more ↦ absurd (not_before_itself a (places_rise count filter xs j i a a q p more))
  ]
]

-- an item is there if its place is one of all
pub item_places : {X Y : Type 0} (list : X → List Y) (xs : List X) (a : Place) (y : Y) → item list xs a.filter a.pad ≡ Some y → Contains (places (λ (x : X). length (list x)) 0 xs) a
item_places {X} list xs a y e =
    let at = item_at list xs a.filter a.pad y e in
    let low = slice_get_within (list at.0) a.pad y at.2 in
    let here = places_has (λ (x : X). length (list x)) 0 xs a.filter at.0 a (omega arith) at.1 low in
    contained (places (λ (x : X). length (list x)) 0 xs) here.0 a here.1

pub places_item : {X Y : Type 0} (list : X → List Y) (xs : List X) (a : Place) → Contains (places (λ (x : X). length (list x)) 0 xs) a → (y : Y) × (item list xs a.filter a.pad ≡ Some y)
places_item {X} list xs a here =
    let at = place_of (places (λ (x : X). length (list x)) 0 xs) a here in
    let of = places_filter (λ (x : X). length (list x)) 0 xs at.0 a at.2 in
    let there = get_within (list of.1) a.pad of.4 in
    let e : a.filter ≡ of.0 = (let f = of.2 in omega arith) in
    (there.0, item_is list xs a.filter a.pad of.1 (ap (slice_get xs) e ∙ of.3) ∙ there.1)

-- ---- labels occur once

-- no output pad's label is on two
pub one_output : (graph : Graph) → Never (HasLabelTwice graph) → (a b : Place) (name : List ℕ) → label graph Out a.filter a.pad ≡ Some name → label graph Out b.filter b.pad ≡ Some name → a ≡ b
one_output graph once a b name p q = elim (cases_place a b) [
  | inl same ↦ same
  | inr apart ↦ absurd (elim apart [
    | inl before ↦ once b.filter (inl (record { name = name; such = tt; pad = b.pad; has = q; earlier = a; has_too = p; before = before }))
    | inr before ↦ once a.filter (inl (record { name = name; such = tt; pad = a.pad; has = p; earlier = b; has_too = q; before = before }))
  ])
]

-- no label of an output pad is on two input pads
pub one_input : (graph : Graph) → Never (HasLabelTwice graph) → (a b : Place) (name : List ℕ) → IsOnOutput graph name → label graph In a.filter a.pad ≡ Some name → label graph In b.filter b.pad ≡ Some name → a ≡ b
one_input graph once a b name such p q = elim (cases_place a b) [
  | inl same ↦ same
  | inr apart ↦ absurd (elim apart [
    | inl before ↦ once b.filter (inr (record { name = name; such = such; pad = b.pad; has = q; earlier = a; has_too = p; before = before }))
    | inr before ↦ once a.filter (inr (record { name = name; such = such; pad = a.pad; has = p; earlier = b; has_too = q; before = before }))
  ])
]

-- ---- neighbours

-- neighbours have no labels
pub neighbour_in : (graph : Graph) (giver taker : Place) → AreNeighbours graph giver taker → label graph In taker.filter taker.pad ≡ None
neighbour_in graph giver taker are = item_past (labels In) graph.calls taker.filter taker.pad are.second are.is_second (let at = are.taker_is in omega arith)

pub neighbour_out : (graph : Graph) (giver taker : Place) → AreNeighbours graph giver taker → label graph Out giver.filter giver.pad ≡ None
neighbour_out graph giver taker are = item_past (labels Out) graph.calls giver.filter giver.pad are.first are.is_first (let at = are.giver_is in omega arith)

-- an input pad has one neighbour at most
pub one_neighbour_giver : (graph : Graph) (a b taker : Place) → AreNeighbours graph a taker → AreNeighbours graph b taker → a ≡ b
one_neighbour_giver graph a b taker p q =
    let filters : a.filter ≡ b.filter = (let m = p.next in let n = q.next in omega arith) in
    let second : p.second ≡ q.second = same_Some p.second q.second (sym p.is_second ∙ q.is_second) in
    let first : p.first ≡ q.first = same_Some p.first q.first (sym p.is_first ∙ (ap (slice_get graph.calls) filters ∙ q.is_first)) in
    let ins : length p.second.ins ≡ length q.second.ins = ap (λ (c : FilterCall). length c.ins) second in
    let outs : length p.first.outs ≡ length q.first.outs = ap (λ (c : FilterCall). length c.outs) first in
    same_place a b filters (let m = p.taker_is in let n = q.taker_is in let k = p.giver_is in let l = q.giver_is in omega arith)

-- and an output pad
pub one_neighbour_taker : (graph : Graph) (giver a b : Place) → AreNeighbours graph giver a → AreNeighbours graph giver b → a ≡ b
one_neighbour_taker graph giver a b p q =
    let filters : a.filter ≡ b.filter = (let m = p.next in let n = q.next in omega arith) in
    let second : p.second ≡ q.second = same_Some p.second q.second (sym p.is_second ∙ (ap (slice_get graph.calls) filters ∙ q.is_second)) in
    let first : p.first ≡ q.first = same_Some p.first q.first (sym p.is_first ∙ q.is_first) in
    let ins : length p.second.ins ≡ length q.second.ins = ap (λ (c : FilterCall). length c.ins) second in
    let outs : length p.first.outs ≡ length q.first.outs = ap (λ (c : FilterCall). length c.outs) first in
    same_place a b filters (let m = p.taker_is in let n = q.taker_is in let k = p.giver_is in let l = q.giver_is in omega arith)

-- ---- what a text joins

-- an input pad is joined to one output pad at most
pub one_giver : (graph : Graph) → Never (HasLabelTwice graph) → (a b taker : Place) → AreJoined graph a taker → AreJoined graph b taker → a ≡ b
one_giver graph once a b taker (inl p) (inl q) =
    let same : q.0 ≡ p.0 = same_Some q.0 p.0 (sym q.2 ∙ p.2) in
    one_output graph once a b p.0 p.1 (q.1 ∙ ap Some same)
one_giver graph once a b taker (inl p) (inr q) = absurd (let named = p.2 in let bare = neighbour_in graph b taker q in cc)
one_giver graph once a b taker (inr p) (inl q) = absurd (let named = q.2 in let bare = neighbour_in graph a taker p in cc)
one_giver graph once a b taker (inr p) (inr q) = one_neighbour_giver graph a b taker p q

-- an output pad is joined to one input pad at most
pub one_taker : (graph : Graph) → Never (HasLabelTwice graph) → (giver a b : Place) → AreJoined graph giver a → AreJoined graph giver b → a ≡ b
one_taker graph once giver a b (inl p) (inl q) =
    let same : q.0 ≡ p.0 = same_Some q.0 p.0 (sym q.1 ∙ p.1) in
    one_input graph once a b p.0 (giver.filter, giver.pad, p.1) p.2 (q.2 ∙ ap Some same)
one_taker graph once giver a b (inl p) (inr q) = absurd (let named = p.1 in let bare = neighbour_out graph giver b q in cc)
one_taker graph once giver a b (inr p) (inl q) = absurd (let named = q.1 in let bare = neighbour_out graph giver a p in cc)
one_taker graph once giver a b (inr p) (inr q) = one_neighbour_taker graph giver a b p q

-- an input pad is joined to an output pad, or its label names a file, or it is open: never two of these
pub joined_not_named : (graph : Graph) (giver taker : Place) (file : ℕ) (said : Option Media) → AreJoined graph giver taker → NamesFile graph taker file said → ⊥
joined_not_named graph giver taker file said (inl share) names =
    let same : share.0 ≡ names.name = same_Some share.0 names.name (sym share.2 ∙ names.is_label) in
    names.on_no_output giver.filter giver.pad (share.1 ∙ ap Some same)
joined_not_named graph giver taker file said (inr are) names = let named = names.is_label in let bare = neighbour_in graph giver taker are in cc

pub joined_not_open : (graph : Graph) (giver taker : Place) → AreJoined graph giver taker → IsOpen graph taker → ⊥
joined_not_open graph giver taker (inl share) open_pad = let named = share.2 in let bare = open_pad.unlabelled in cc
joined_not_open graph giver taker (inr are) open_pad = open_pad.alone giver are

pub named_not_open : (graph : Graph) (taker : Place) (file : ℕ) (said : Option Media) → NamesFile graph taker file said → IsOpen graph taker → ⊥
named_not_open graph taker file said names open_pad = let named = names.is_label in let bare = open_pad.unlabelled in cc

-- ---- joined pads are there

-- the pad that a label names is there
pub labelled_is_there : (graph : Graph) → length graph.pads ≡ length graph.calls → Never (HasWrongPads graph) → (side : Side) (filter pad : ℕ) (name : List ℕ) → label graph side filter pad ≡ Some name
    → (is : Media) × (kind graph side filter pad ≡ Some is)
labelled_is_there graph each right side filter pad name e =
    let call = item_at (labels side) graph.calls filter pad name e in
    let within = slice_get_within graph.calls filter call.0 call.1 in
    let of = get_within graph.pads filter (omega arith) in
    let number = slice_get_within (labels side call.0) pad name call.2 in
    let there = get_within (kinds side of.0) pad (elim (cases_lt (length (kinds side of.0)) (length (labels side call.0))) [
      | inl more ↦ absurd (right filter (inl (record { call = call.0; is_call = call.1; pads = of.0; are_pads = of.1; side = side; more = more })))
      | inr fits ↦ omega arith
    ]) in
    (there.0, item_is (kinds side) graph.pads filter pad of.0 of.1 ∙ there.1)

-- the input pad of two that are joined is there
pub joined_taker_is_there : (graph : Graph) → length graph.pads ≡ length graph.calls → Never (HasWrongPads graph) → (giver taker : Place) → AreJoined graph giver taker
    → (wants : Media) × (kind graph In taker.filter taker.pad ≡ Some wants)
joined_taker_is_there graph each right giver taker (inl share) = labelled_is_there graph each right In taker.filter taker.pad share.0 share.2
joined_taker_is_there graph each right giver taker (inr are) = elim (cases_Option (kind graph In taker.filter taker.pad)) [
  | inl there ↦ there
  | inr none ↦ absurd (right taker.filter (inr (record { giver = giver; pad = taker.pad; neighbours = are; missing = none })))
]

-- and the output pad
pub joined_giver_is_there : (graph : Graph) → length graph.pads ≡ length graph.calls → Never (HasWrongPads graph) → (giver taker : Place) → AreJoined graph giver taker
    → (gives : Media) × (kind graph Out giver.filter giver.pad ≡ Some gives)
joined_giver_is_there graph each right giver taker (inl share) = labelled_is_there graph each right Out giver.filter giver.pad share.0 share.1
joined_giver_is_there graph each right giver taker (inr are) = (are.gives, are.is_there)

-- joined pads are of filters of the text
pub joined_giver_within : (graph : Graph) (giver taker : Place) → AreJoined graph giver taker → giver.filter < length graph.calls
joined_giver_within graph giver taker (inl share) = item_filter (labels Out) graph.calls giver.filter giver.pad share.0 share.1
joined_giver_within graph giver taker (inr are) = slice_get_within graph.calls giver.filter are.first are.is_first

pub joined_taker_within : (graph : Graph) (giver taker : Place) → AreJoined graph giver taker → taker.filter < length graph.calls
joined_taker_within graph giver taker (inl share) = item_filter (labels In) graph.calls taker.filter taker.pad share.0 share.2
joined_taker_within graph giver taker (inr are) = slice_get_within graph.calls taker.filter are.second are.is_second

-- ---- labels of files

-- it begins with no digit
abbrev BeginsBare : List ℕ → Type 0
BeginsBare [] = Unit {0}
BeginsBare (c ∷ rest) = digit_value c < 10 → ⊥

-- what comes after a number begins with no digit
kind_bare : (suffix : List ℕ) (said : Option Media) → SaysKind suffix said → BeginsBare suffix
kind_bare _ _ plain = tt
kind_bare _ _ video = λ low. omega arith
kind_bare _ _ first_video = λ low. omega arith
kind_bare _ _ audio = λ low. omega arith
kind_bare _ _ first_audio = λ low. omega arith

-- a text splits into digits and what comes after them in one way
digits_once : (a b r s : List ℕ) → AllDigits 10 a → AllDigits 10 b → BeginsBare r → BeginsBare s → a ++ r ≡ b ++ s → (a ≡ b) × (r ≡ s)
digits_once [] [] r s p q u v e = (refl, e)
digits_once [] (c ∷ b) r s p q u v e = absurd (let P : List ℕ → Type 0 = λ l. BeginsBare l in subst P e u q.0)
digits_once (c ∷ a) [] r s p q u v e = absurd (let P : List ℕ → Type 0 = λ l. BeginsBare l in subst P (sym e) v p.0)
digits_once (c ∷ a) (d ∷ b) r s p q u v e =
    let same : c ≡ d = cc in
    let rest : a ++ r ≡ b ++ s = cc in
    let more = digits_once a b r s p.1 q.1 u v rest in
    (let tail = more.0 in cc, more.1)

-- what a text after a number says
abbrev said_by : List ℕ → Option Media
said_by [] = None
said_by (c ∷ []) = None
said_by (c ∷ d ∷ rest) = cond (d == 118) (Some media.Video) (Some media.Audio)

kind_said : (suffix : List ℕ) (said : Option Media) → SaysKind suffix said → said ≡ said_by suffix
kind_said _ _ plain = refl
kind_said _ _ video = refl
kind_said _ _ first_video = refl
kind_said _ _ audio = refl
kind_said _ _ first_audio = refl

-- a label says one file, and one kind
pub says_once : (name : List ℕ) (a b : ℕ) (s t : Option Media) → SaysFile name a s → SaysFile name b t → (a ≡ b) × (s ≡ t)
says_once name a b s t p q =
    let parts = digits_once p.digits q.digits p.suffix q.suffix p.number.digits q.number.digits (kind_bare p.suffix s p.kind_said) (kind_bare q.suffix t q.kind_said) (sym p.name_is ∙ q.name_is) in (
      p.number.value ∙ (ap (digits_value 10) parts.0 ∙ sym q.number.value),
      kind_said p.suffix s p.kind_said ∙ (ap said_by parts.1 ∙ sym (kind_said q.suffix t q.kind_said)),
    )

-- an input pad's label names one file
pub one_named : (graph : Graph) (taker : Place) (a b : ℕ) (s t : Option Media) → NamesFile graph taker a s → NamesFile graph taker b t → (a ≡ b) × (s ≡ t)
one_named graph taker a b s t p q =
    let same : q.name ≡ p.name = same_Some q.name p.name (sym q.is_label ∙ p.is_label) in
    let P : List ℕ → Type 0 = λ name. SaysFile name b t in
    says_once p.name a b s t p.says (subst P same q.says)

-- ---- origins

-- an input pad has one origin after these links
pub one_origin : (graph : Graph) → Never (HasLabelTwice graph) → (before : List Edge) (taker : Place) (a b : Source) → IsOrigin graph before taker a → IsOrigin graph before taker b → a ≡ b
one_origin graph once before taker a b (inl p) (inl q) =
    let same : p.0 ≡ q.0 = one_giver graph once p.0 q.0 taker p.2 q.2 in
    p.1 ∙ (ap (λ (g : Place). from.Filter g.filter g.pad) same ∙ sym q.1)
one_origin graph once before taker a b (inl p) (inr (inl q)) = absurd (joined_not_named graph p.0 taker q.0 q.1 p.2 q.3)
one_origin graph once before taker a b (inl p) (inr (inr q)) = absurd (joined_not_open graph p.0 taker p.2 q.3)
one_origin graph once before taker a b (inr (inl p)) (inl q) = absurd (joined_not_named graph q.0 taker p.0 p.1 q.2 p.3)
one_origin graph once before taker a b (inr (inl p)) (inr (inl q)) = p.2 ∙ (ap (λ (n : ℕ). from.Input n) (one_named graph taker p.0 q.0 p.1 q.1 p.3 q.3).0 ∙ sym q.2)
one_origin graph once before taker a b (inr (inl p)) (inr (inr q)) = absurd (named_not_open graph taker p.0 p.1 p.3 q.3)
one_origin graph once before taker a b (inr (inr p)) (inl q) = absurd (joined_not_open graph q.0 taker q.2 p.3)
one_origin graph once before taker a b (inr (inr p)) (inr (inl q)) = absurd (named_not_open graph taker q.0 q.1 q.3 p.3)
one_origin graph once before taker a b (inr (inr p)) (inr (inr q)) =
    let wanted : q.0 ≡ p.0 = same_Some q.0 p.0 (sym q.4 ∙ p.4) in
    let P : Media → Type 0 = λ m. IsFirst (IsLeft graph before m) q.1 in
    let files : p.1 ≡ q.1 = first_same p.5 (subst P wanted q.5) in
    p.2 ∙ (ap (λ (n : ℕ). from.Input n) files ∙ sym q.2)

-- an open input pad of whose kind no file is left has none
pub no_origin : (graph : Graph) (before : List Edge) (taker : Place) (origin : Source) (wanted : Media) → IsOpen graph taker → kind graph In taker.filter taker.pad ≡ Some wanted → Never (IsLeft graph before wanted)
    → IsOrigin graph before taker origin → ⊥
no_origin graph before taker origin wanted open_pad e none (inl p) = joined_not_open graph p.0 taker p.2 open_pad
no_origin graph before taker origin wanted open_pad e none (inr (inl p)) = named_not_open graph taker p.0 p.1 p.3 open_pad
no_origin graph before taker origin wanted open_pad e none (inr (inr p)) =
    let same : p.0 ≡ wanted = same_Some p.0 wanted (sym p.4 ∙ e) in
    let P : Media → Type 0 = λ m. IsFirst (IsLeft graph before m) p.1 in
    none p.1 (subst P same p.5).holds
