-- Links one after another, and the rows that they make.
use Rattle.std.proofs.Common.{◌≡◌, ◌<◌, ◌+◌, ◌⊎◌, ◌↔◌, ◌++◌, ℕ, zero, suc, List, [], ◌∷◌, Some, Vec, Global, length, take, set, get_or, refl, sym, ◌∙◌, ap, subst, arith, inl, inr}
use Rattle.std.specs.List.{slice_get, Contains}
use Rattle.std.proofs.lemmas.Bool.{cases_eq}
use Rattle.std.proofs.lemmas.Option.{same_Some, slice_get_within}
use Rattle.std.proofs.lemmas.List.{take_more}
use Rattle.std.proofs.lemmas.List.Elements.{Contains-push, Contains-push_cases, Contains-append_left, Contains-get_or}
use Rattle.graph_plan.specs.declared.plan.Edge.{Edge}
use Rattle.graph_plan.specs.declared.order.Neighbours.{Neighbours}
use Rattle.graph_plan.specs.Orders.{Feeds, AreBelow}
use Rattle.graph_plan.specs.Arranging.{Joins, IsBelow, Has, AreRows, AreNeighbours}
use Rattle.av_base.proofs.Lists.{pushed_at}

-- ---- links

pub feeds_none : (giver taker : ℕ) → Feeds [] giver taker → ⊥
feeds_none giver taker feeds = let k : feeds.2.0 < 0 = feeds.2.1 in omega arith

-- one more link
pub feeds_more : (links : List Edge) (index : ℕ) (d : Edge) (giver taker : ℕ) → index < length links
    → Feeds (take (index + 1) links) giver taker → Feeds (take index links) giver taker ⊎ Joins (get_or links index d) giver taker
feeds_more links index d giver taker within feeds =
    let here = rw (take_more links index d within) at feeds.2 in
    elim (Contains-push_cases (take index links) (get_or links index d) _ here) [
      | inl old ↦ inl (feeds.0, feeds.1, old)
      | inr same ↦ inr (feeds.0, feeds.1, same)
    ]

-- a link of them
pub feeds_at : (links : List Edge) (index : ℕ) (d : Edge) (giver taker : ℕ) → index < length links → Joins (get_or links index d) giver taker → Feeds links giver taker
feeds_at links index d giver taker within joins = (
  joins.0,
  joins.1,
  (let P : Edge → Type 0 = λ x. Contains links x in subst P joins.2 (Contains-get_or links index d within)),
)

pub joins_below : (links : List Edge) (count index : ℕ) (d : Edge) → AreBelow (Feeds links) count → index < length links
    → IsBelow (get_or links index d) count
joins_below links count index d below within giver taker joins =
    let feeds = feeds_at links index d giver taker within joins in
    (below.givers giver taker feeds, below.takers giver taker feeds)

pub below_more : (links : List Edge) (index : ℕ) (d : Edge) (count : ℕ) → index < length links → AreBelow (Feeds (take index links)) count
    → IsBelow (get_or links index d) count → AreBelow (Feeds (take (index + 1) links)) count
below_more links index d count within so_far here = record {
  givers = λ giver taker feeds. elim (feeds_more links index d giver taker within feeds) [
    | inl old ↦ so_far.givers giver taker old
    | inr joins ↦ (here giver taker joins).0
  ];
  takers = λ giver taker feeds. elim (feeds_more links index d giver taker within feeds) [
    | inl old ↦ so_far.takers giver taker old
    | inr joins ↦ (here giver taker joins).1
  ];
}

pub feeds_grow : (links : List Edge) (index : ℕ) (d : Edge) (giver taker : ℕ) → index < length links
    → Feeds (take index links) giver taker ⊎ Joins (get_or links index d) giver taker → Feeds (take (index + 1) links) giver taker
feeds_grow links index d giver taker within (inl old) = (
  old.0,
  old.1,
  rw (take_more links index d within) (Contains-append_left (take index links) (get_or links index d ∷ []) _ old.2),
)
feeds_grow links index d giver taker within (inr joins) = (
  joins.0,
  joins.1,
  (let P : Edge → Type 0 = λ x. Contains (take (index + 1) links) x in subst P joins.2 (rw (take_more links index d within) (Contains-push (take index links) (get_or links index d)))),
)

-- a link has one giver and one taker
joins_once : (link : Edge) (a b x y : ℕ) → Joins link a x → Joins link b y → (a ≡ b) × (x ≡ y)
joins_once link a b x y p q =
    let same = sym p.2 ∙ q.2 in
    ((let e = ap (λ (l : Edge). l.from) same in cc), (let e = ap (λ (l : Edge). l.to) same in cc))

-- what was noted of a link
pub noted_giver : (Old New : Type 0) (link : Edge) (giver taker g t : ℕ) → Joins link giver taker → (New ↔ (Old ⊎ (t ≡ taker) × (g ≡ giver))) → New ↔ (Old ⊎ Joins link g t)
noted_giver Old New link giver taker g t joins is = (
  λ new. elim (is.0 new) [
    | inl old ↦ inl old
    | inr same ↦ inr (
        let P : ℕ → Type 0 = λ n. Joins link n t in
        let Q : ℕ → Type 0 = λ n. Joins link giver n in
        subst P (sym same.1) (subst Q (sym same.0) joins)
        )
  ],
  λ both. is.1 (elim both [ inl old ↦ inl old | inr other ↦ inr (let same = joins_once link g giver t taker other joins in (same.1, same.0)) ]),
)

pub noted_taker : (Old New : Type 0) (link : Edge) (giver taker g t : ℕ) → Joins link giver taker → (New ↔ (Old ⊎ (g ≡ giver) × (t ≡ taker))) → New ↔ (Old ⊎ Joins link g t)
noted_taker Old New link giver taker g t joins is = noted_giver Old New link giver taker g t joins (
  λ new. elim (is.0 new) [ inl old ↦ inl old | inr same ↦ inr (same.1, same.0) ],
  λ both. is.1 (elim both [ inl old ↦ inl old | inr same ↦ inr (same.1, same.0) ]),
)

pub noted_none : (Old : Type 0) (link : Edge) (g t : ℕ) → (Joins link g t → ⊥) → Old ↔ (Old ⊎ Joins link g t)
noted_none Old link g t none = (λ old. inl old, λ both. elim both [ inl old ↦ old | inr joins ↦ absurd (none joins) ])

-- ---- rows

get_set_same : {X : Type 0} (xs : List X) (k : ℕ) (x : X) → k < length xs → slice_get (set xs k x) k ≡ Some x
get_set_same [] k x h = absurd (omega arith)
get_set_same (y ∷ xs) zero x h = refl
get_set_same (y ∷ xs) (suc k) x h = get_set_same xs k x (omega arith)

get_set_other : {X : Type 0} (xs : List X) (k n : ℕ) (x : X) → (n ≡ k → ⊥) → slice_get (set xs k x) n ≡ slice_get xs n
get_set_other [] k n x h = refl
get_set_other (y ∷ xs) zero zero x h = absurd (h refl)
get_set_other (y ∷ xs) zero (suc n) x h = refl
get_set_other (y ∷ xs) (suc k) zero x h = refl
get_set_other (y ∷ xs) (suc k) (suc n) x h = get_set_other xs k n x (λ e. h (ap suc e))

-- an item of a row
pub in_row : (rows : List (Vec ℕ Global)) (number item : ℕ) (row : Vec ℕ Global) → slice_get rows number ≡ Some row → Has rows number item → Contains row.items item
in_row rows number item row at has =
    let same : has.0 ≡ row = same_Some has.0 row (sym has.1 ∙ at) in
    let P : Vec ℕ Global → Type 0 = λ v. Contains v.items item in
    subst P same has.2

pub no_rows : (number item : ℕ) → Has [] number item → ⊥
no_rows number item has = let none = has.1 in cc

pub none_more : (rows : List (Vec ℕ Global)) (new : Vec ℕ Global) → new.items ≡ [] → ((number item : ℕ) → Has rows number item → ⊥)
    → (number item : ℕ) → Has (rows ++ new ∷ []) number item → ⊥
none_more rows new empty none number item has = elim (pushed_at rows new number has.0 has.1) [
  | inl old ↦ none number item (has.0, old, has.2)
  | inr last ↦ (
      let P : List ℕ → Type 0 = λ xs. Contains xs item in
      let here : Contains [] item = subst P (ap (λ (v : Vec ℕ Global). v.items) last.1 ∙ empty) has.2 in
      let k : here.0 < 0 = here.1 in
      omega arith
      )
]

-- a row has one more item
pub has_more : (rows : List (Vec ℕ Global)) (number item : ℕ) (old new : Vec ℕ Global) → number < length rows → slice_get rows number ≡ Some old → new.items ≡ old.items ++ item ∷ []
    → (n i : ℕ) → Has (set rows number new) n i ↔ (Has rows n i ⊎ (n ≡ number) × (i ≡ item))
has_more rows number item old new low at more n i = (forth, back) where
  here : (m : ℕ) → m ≡ number → slice_get (set rows number new) m ≡ Some new
  here m same = let P : ℕ → Type 0 = λ k. slice_get (set rows number new) k ≡ Some new in subst P (sym same) (get_set_same rows number new low)

  before : (m : ℕ) → m ≡ number → slice_get rows m ≡ Some old
  before m same = let P : ℕ → Type 0 = λ k. slice_get rows k ≡ Some old in subst P (sym same) at

  longer : (x : ℕ) → Contains (old.items ++ item ∷ []) x → Contains new.items x
  longer x is = let P : List ℕ → Type 0 = λ xs. Contains xs x in subst P (sym more) is

  shorter : (x : ℕ) → Contains new.items x → Contains (old.items ++ item ∷ []) x
  shorter x is = let P : List ℕ → Type 0 = λ xs. Contains xs x in subst P more is

  forth : Has (set rows number new) n i → Has rows n i ⊎ (n ≡ number) × (i ≡ item)
  forth has = elim (cases_eq n number) [
    | inl same ↦ elim (Contains-push_cases old.items item i (shorter i (in_row (set rows number new) n i new (here n same) has))) [
      | inl first ↦ inl (old, before n same, first)
      | inr last ↦ inr (same, sym last)
    ]
    | inr apart ↦ inl (has.0, sym (get_set_other rows number n new apart) ∙ has.1, has.2)
  ]

  back : Has rows n i ⊎ (n ≡ number) × (i ≡ item) → Has (set rows number new) n i
  back (inl has) = elim (cases_eq n number) [
    | inl same ↦ (new, here n same, longer i (Contains-append_left old.items (item ∷ []) i (in_row rows n i old (before n same) has)))
    | inr apart ↦ (has.0, get_set_other rows number n new apart ∙ has.1, has.2)
  ]
  back (inr both) = (
    new,
    here n both.0,
    (let P : ℕ → Type 0 = λ x. Contains new.items x in subst P (sym both.1) (longer item (Contains-push old.items item))),
  )

-- rows lead from filters to filters
pub rows_below : (rows : List (Vec ℕ Global)) (count : ℕ) → AreRows count count rows → AreBelow (Has rows) count
rows_below rows count are = record {
  givers = λ number item has. let low = slice_get_within rows number has.0 has.1 in let all = are.each in omega arith;
  takers = λ number item has. are.below number item has;
}

-- ---- neighbours

pub neighbours_none : (links : List Edge) (count : ℕ) (neighbours : Neighbours) → length neighbours.givers.items ≡ count → length neighbours.takers.items ≡ count
    → ((number item : ℕ) → Has neighbours.givers.items number item → ⊥) → ((number item : ℕ) → Has neighbours.takers.items number item → ⊥)
    → AreNeighbours (Feeds (take 0 links)) count neighbours
neighbours_none links count neighbours givers takers no_giver no_taker = record {
  givers_each = givers;
  takers_each = takers;
  givers = λ giver taker. (λ has. absurd (no_giver taker giver has), λ feeds. absurd (feeds_none giver taker feeds));
  takers = λ giver taker. (λ has. absurd (no_taker giver taker has), λ feeds. absurd (feeds_none giver taker feeds));
}

feeds_both : (links : List Edge) (index : ℕ) (d : Edge) (giver taker : ℕ) (Old New : Type 0) → index < length links → (Old ↔ Feeds (take index links) giver taker)
    → (New ↔ (Old ⊎ Joins (get_or links index d) giver taker)) → New ↔ Feeds (take (index + 1) links) giver taker
feeds_both links index d giver taker Old New within was is = (
  λ new. feeds_grow links index d giver taker within (elim (is.0 new) [ inl old ↦ inl (was.0 old) | inr joins ↦ inr joins ]),
  λ feeds. is.1 (elim (feeds_more links index d giver taker within feeds) [ inl old ↦ inl (was.1 old) | inr joins ↦ inr joins ]),
)

pub neighbours_more : (links : List Edge) (index count : ℕ) (d : Edge) (old new : Neighbours) → index < length links → AreNeighbours (Feeds (take index links)) count old
    → length new.givers.items ≡ length old.givers.items → length new.takers.items ≡ length old.takers.items
    → ((giver taker : ℕ) → Has new.givers.items taker giver ↔ (Has old.givers.items taker giver ⊎ Joins (get_or links index d) giver taker))
    → ((giver taker : ℕ) → Has new.takers.items giver taker ↔ (Has old.takers.items giver taker ⊎ Joins (get_or links index d) giver taker))
    → AreNeighbours (Feeds (take (index + 1) links)) count new
neighbours_more links index count d old new within are givers takers giver_is taker_is = record {
  givers_each = givers ∙ are.givers_each;
  takers_each = takers ∙ are.takers_each;
  givers = λ giver taker. feeds_both links index d giver taker (Has old.givers.items taker giver) (Has new.givers.items taker giver) within (are.givers giver taker) (giver_is giver taker);
  takers = λ giver taker. feeds_both links index d giver taker (Has old.takers.items giver taker) (Has new.takers.items giver taker) within (are.takers giver taker) (taker_is giver taker);
}
