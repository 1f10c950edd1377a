-- Filters in order: one order at most, and none of filters that reach themselves.
use Rattle.std.proofs.Common.{◌≡◌, ◌<◌, ◌≤◌, ◌+◌, ◌⊎◌, ℕ, zero, suc, List, [], ◌∷◌, ◌++◌, true, nat_eq, length, refl, sym, subst, arith, inl, inr}
use Rattle.std.specs.List.{Contains, list_any, IsDistinct}
use Rattle.std.proofs.lemmas.Bool.{false_from_ne_true, cases_Bool, cases_order, eqb-true}
use Rattle.std.proofs.lemmas.Cmp.{nat_eq_equiv}
use Rattle.std.proofs.lemmas.List.{length_push}
use Rattle.std.proofs.lemmas.List.Elements.{Contains-push_cases, Contains-append_left}
use Rattle.std.proofs.lemmas.Map.Keys.{IsDistinct-push}
use Rattle.std.proofs.lemmas.Map.Steps.{length-le_from_distinct_below}
use Rattle.std.proofs.lemmas.Map.Views.{Contains-from_any, list_any-from_Contains}
use Rattle.graph_plan.specs.Orders.{LeadsTo, Directly, Through, Reaches, IsReady, Comes, AreBelow}

-- ---- numbers below a count

pub listed : (filters : List ℕ) (filter : ℕ) → list_any (nat_eq filter) filters ≡ true → Contains filters filter
listed filters filter any = Contains-from_any {eq = nat_eq} eqb-true filter filters any

pub is_listed : (filters : List ℕ) (filter : ℕ) → Contains filters filter → list_any (nat_eq filter) filters ≡ true
is_listed filters filter here = list_any-from_Contains nat_eq_equiv filter filters here

-- no two of them are equal, and each is below the count
pub record AreDistinct (count : ℕ) (filters : List ℕ) : Type 0 where
  pub distinct : IsDistinct nat_eq filters
  pub below : (filter : ℕ) → Contains filters filter → filter < count

pub distinct_none : (count : ℕ) → AreDistinct count []
unfolding IsDistinct
distinct_none count = record { distinct = tt; below = λ filter here. absurd (let k : here.0 < 0 = here.1 in omega arith) }

pub distinct_push : (count : ℕ) (filters : List ℕ) (filter : ℕ) → AreDistinct count filters → filter < count → (Contains filters filter → ⊥) → AreDistinct count (filters ++ filter ∷ [])
distinct_push count filters filter are low new = record {
  distinct = IsDistinct-push nat_eq_equiv filters filter are.distinct (false_from_ne_true (list_any (nat_eq filter) filters) (λ any. new (listed filters filter any)));
  below = λ other here. elim (Contains-push_cases filters filter other here) [
    | inl old ↦ are.below other old
    | inr same ↦ (let P : ℕ → Type 0 = λ n. n < count in subst P same low)
  ];
}

-- they are no more than the count
pub distinct_few : (count : ℕ) (filters : List ℕ) → AreDistinct count filters → length filters ≤ count
distinct_few count filters are = length-le_from_distinct_below filters count are.distinct (λ filter any. are.below filter (listed filters filter any))

-- as many as the count are all
pub distinct_all : (count : ℕ) (filters : List ℕ) → AreDistinct count filters → length filters ≡ count → (filter : ℕ) → filter < count → Contains filters filter
distinct_all count filters are all filter low = elim (cases_Bool (list_any (nat_eq filter) filters)) [
  | inl any ↦ listed filters filter any
  | inr none ↦ absurd (
      let new : Contains filters filter → ⊥ = λ here. (let any = is_listed filters filter here in cc) in
      let few = distinct_few count (filters ++ filter ∷ []) (distinct_push count filters filter are low new) in
      omega (arith, length_push filters filter)
      )
]

-- ---- one order

comes_length : (R : ℕ → ℕ → Type 0) (count : ℕ) (done filters : List ℕ) → Comes R count done filters → length done + length filters ≡ count
comes_length R count done [] h = omega (arith, h)
comes_length R count done (filter ∷ filters) h =
    let more = comes_length R count (done ++ filter ∷ []) filters h.4 in
    omega (arith, length_push done filter)

same_next : (R : ℕ → ℕ → Type 0) (count : ℕ) (done : List ℕ) (x y : ℕ) (xs ys : List ℕ) → Comes R count done (x ∷ xs) → Comes R count done (y ∷ ys) → x ≡ y
same_next R count done x y xs ys p q = elim (cases_order x y) [
  | inl same ↦ same
  | inr apart ↦ elim apart [
    | inl less ↦ absurd (q.3 x less p.1 p.2)
    | inr more ↦ absurd (p.3 y more q.1 q.2)
  ]
]

pub same_comes : (R : ℕ → ℕ → Type 0) (count : ℕ) (done a b : List ℕ) → Comes R count done a → Comes R count done b → a ≡ b
same_comes R count done [] [] p q = refl
same_comes R count done [] (y ∷ ys) p q = absurd (let more = comes_length R count done (y ∷ ys) q in omega (arith, p))
same_comes R count done (x ∷ xs) [] p q = absurd (let more = comes_length R count done (x ∷ xs) p in omega (arith, q))
same_comes R count done (x ∷ xs) (y ∷ ys) p q =
    let same : x ≡ y = same_next R count done x y xs ys p q in
    let P : ℕ → Type 0 = λ n. Comes R count (done ++ n ∷ []) ys in
    let rest = same_comes R count (done ++ x ∷ []) xs ys p.4 (subst P (sym same) q.4) in
    cc

-- ---- ways over R

-- the last link of a way
pub last_link : (R : ℕ → ℕ → Type 0) (taker giver : ℕ) → LeadsTo R taker giver → (last : ℕ) × R last taker × ((last ≡ giver) ⊎ LeadsTo R last giver)
last_link R taker _ (Directly giver feeds) = (giver, feeds, inl refl)
last_link R taker _ (Through giver middle feeds leads) =
    let more = last_link R taker middle leads in (
      more.0,
      more.1,
      inr (elim more.2 [
        | inl same ↦ (let P : ℕ → Type 0 = λ n. R giver n in Directly giver (subst P (sym same) feeds))
        | inr on ↦ Through giver middle feeds on
      ]),
    )

-- a way goes on over a further link
pub leads_on : (R : ℕ → ℕ → Type 0) (taker next giver : ℕ) → LeadsTo R taker giver → R taker next → LeadsTo R next giver
leads_on R taker next _ (Directly giver feeds) on = Through giver taker feeds (Directly taker on)
leads_on R taker next _ (Through giver middle feeds leads) on = Through giver middle feeds (leads_on R taker next middle leads on)

-- what leads to filters that have all their givers among them is among them
leads_back : (R : ℕ → ℕ → Type 0) (done : List ℕ) → ((giver taker : ℕ) → R giver taker → Contains done taker → Contains done giver)
    → (taker giver : ℕ) → LeadsTo R taker giver → Contains done taker → Contains done giver
leads_back R done closed taker _ (Directly giver feeds) here = closed giver taker feeds here
leads_back R done closed taker _ (Through giver middle feeds leads) here = closed giver middle feeds (leads_back R done closed taker middle leads here)

-- a way begins below the count
pub leads_below : (R : ℕ → ℕ → Type 0) (count taker giver : ℕ) → AreBelow R count → LeadsTo R taker giver → giver < count
leads_below R count taker _ below (Directly giver feeds) = below.givers giver taker feeds
leads_below R count taker _ below (Through giver middle feeds leads) = below.givers giver middle feeds

-- ---- no cycle

-- filters with all their givers, of which none reaches itself
pub record AreDone (R : ℕ → ℕ → Type 0) (count : ℕ) (done : List ℕ) : Type 0 where
  pub distinct : AreDistinct count done
  pub closed : (giver taker : ℕ) → R giver taker → Contains done taker → Contains done giver
  pub straight : (filter : ℕ) → Contains done filter → Reaches R filter filter → ⊥

pub done_none : (R : ℕ → ℕ → Type 0) (count : ℕ) → AreDone R count []
done_none R count = record {
  distinct = distinct_none count;
  closed = λ giver taker feeds here. absurd (let k : here.0 < 0 = here.1 in omega arith);
  straight = λ filter here reaches. let k : here.0 < 0 = here.1 in omega arith;
}

ready_straight : (R : ℕ → ℕ → Type 0) (count : ℕ) (done : List ℕ) (filter : ℕ) → AreDone R count done → (Contains done filter → ⊥) → IsReady R done filter → Reaches R filter filter → ⊥
ready_straight R count done filter are new ready reaches =
    let last = last_link R filter filter reaches in
    let here = ready last.0 last.1 in
    elim last.2 [
      | inl same ↦ (let P : ℕ → Type 0 = λ n. Contains done n in new (subst P same here))
      | inr leads ↦ new (leads_back R done are.closed last.0 filter leads here)
    ]

pub done_push : (R : ℕ → ℕ → Type 0) (count : ℕ) (done : List ℕ) (filter : ℕ) → AreDone R count done → filter < count → (Contains done filter → ⊥) → IsReady R done filter → AreDone R count (done ++ filter ∷ [])
done_push R count done filter are low new ready = record {
  distinct = distinct_push count done filter are.distinct low new;
  closed = λ giver taker feeds here. Contains-append_left done (filter ∷ []) giver (elim (Contains-push_cases done filter taker here) [
    | inl old ↦ are.closed giver taker feeds old
    | inr same ↦ (let P : ℕ → Type 0 = λ n. R giver n in ready giver (subst P (sym same) feeds))
  ]);
  straight = λ other here reaches. elim (Contains-push_cases done filter other here) [
    | inl old ↦ are.straight other old reaches
    | inr same ↦ (let P : ℕ → Type 0 = λ n. Reaches R n n in ready_straight R count done filter are new ready (subst P (sym same) reaches))
  ];
}

pub comes_straight : (R : ℕ → ℕ → Type 0) (count : ℕ) (done filters : List ℕ) (filter : ℕ) → AreDone R count done → Comes R count done filters → filter < count → Reaches R filter filter → ⊥
comes_straight R count done [] filter are all low reaches = are.straight filter (distinct_all count done are.distinct all filter low) reaches
comes_straight R count done (next ∷ filters) filter are h low reaches =
    comes_straight R count (done ++ next ∷ []) filters filter (done_push R count done next are h.0 h.1 h.2) h.4 low reaches

-- ---- if no filter can come

-- a way back from a filter, over distinct ones
record IsWay (R : ℕ → ℕ → Type 0) (count start : ℕ) (way : List ℕ) : Type 0 where
  distinct : AreDistinct count way
  leads : (filter : ℕ) → Contains way filter → (start ≡ filter) ⊎ Reaches R start filter

way_more : (R : ℕ → ℕ → Type 0) (count start giver : ℕ) (way : List ℕ) → ((filter : ℕ) → Reaches R filter filter → ⊥) → IsWay R count start way → giver < count → R giver start → IsWay R count giver (way ++ giver ∷ [])
way_more R count start giver way straight is low feeds = record {
  distinct = distinct_push count way giver is.distinct low (λ here. straight giver (elim (is.leads giver here) [
    | inl same ↦ (let P : ℕ → Type 0 = λ n. R giver n in Directly giver (subst P same feeds))
    | inr on ↦ Through giver start feeds on
  ]));
  leads = λ filter here. elim (Contains-push_cases way giver filter here) [
    | inl old ↦ inr (elim (is.leads filter old) [
      | inl same ↦ (let P : ℕ → Type 0 = λ n. R giver n in Directly giver (subst P same feeds))
      | inr on ↦ Through giver start feeds on
    ])
    | inr same ↦ inl same
  ];
}

-- if each of these takes from another of them, the way back has any number of steps
long_way : (R : ℕ → ℕ → Type 0) (count : ℕ) (Held : ℕ → Type 0) → AreBelow R count → ((filter : ℕ) → Reaches R filter filter → ⊥)
    → ((taker : ℕ) → Held taker → (giver : ℕ) × R giver taker × Held giver) → (start : ℕ) → start < count → Held start
    → (steps : ℕ) → (end : ℕ) × (way : List ℕ) × IsWay R count end way × Held end × (length way ≡ steps + 1)
long_way R count Held below straight held start low is zero = (
  start,
  [] ++ start ∷ [],
  record {
    distinct = distinct_push count [] start (distinct_none count) low (λ here. let k : here.0 < 0 = here.1 in omega arith);
    leads = λ filter here. elim (Contains-push_cases [] start filter here) [
      | inl old ↦ absurd (let k : old.0 < 0 = old.1 in omega arith)
      | inr same ↦ inl same
    ];
  },
  is,
  omega arith,
)
long_way R count Held below straight held start low is (suc steps) =
    let so_far = long_way R count Held below straight held start low is steps in
    let back = held so_far.0 so_far.3 in (
      back.0,
      so_far.1 ++ back.0 ∷ [],
      way_more R count so_far.0 back.0 so_far.1 straight so_far.2 (below.givers back.0 so_far.0 back.1) back.1,
      back.2,
      (let e = so_far.4 in omega (arith, length_push so_far.1 back.0)),
    )

-- if each of these takes from another of them, and there is one, some filter reaches itself
pub held_cycle : (R : ℕ → ℕ → Type 0) (count : ℕ) (Held : ℕ → Type 0) → AreBelow R count
    → ((taker : ℕ) → Held taker → (giver : ℕ) × R giver taker × Held giver) → (start : ℕ) → start < count → Held start
    → ((filter : ℕ) → Reaches R filter filter → ⊥) → ⊥
held_cycle R count Held below held start low is straight =
    let far = long_way R count Held below straight held start low is count in
    let few = distinct_few count far.1 far.2.distinct in
    let long = far.4 in
    omega arith
