-- An order as far as it has come.
use Rattle.std.proofs.Common.{◌≡◌, ◌<◌, ◌≤◌, ◌+◌, ◌⊎◌, ◌↔◌, ℕ, List, [], ◌∷◌, ◌++◌, Bool, true, false, Some, Vec, Global, length, set, get_or, replicate, refl, sym, ◌∙◌, ap, subst, arith, inl, inr, append_assoc}
use Rattle.std.specs.Prelude.{slice_index}
use Rattle.std.specs.List.{slice_get, Contains, All}
use Rattle.std.specs.Ordering.{nat_cmp, match_ordering}
use Rattle.std.specs.declared.cmp.Ordering.{Ordering}
use Rattle.std.specs.declared.cmp.Ordering.TheVariants.{Less, Equal, Greater}
use Rattle.std.specs.BTreeSet.{insert_key}
use Rattle.std.proofs.lemmas.Bool.{cases_eq, cases_lt}
use Rattle.std.proofs.lemmas.Cmp.{ranked}
use Rattle.std.proofs.lemmas.Option.{same_Some, get_or_from_slice_get}
use Rattle.std.proofs.lemmas.List.{get_or-set_same, get_or-set_other, get_or-replicate, get_or_past, length-replicate, length_push, length-set, append-nil}
use Rattle.std.proofs.lemmas.List.Elements.{Contains-push, Contains-push_cases, Contains-append_left, Contains-append_right, Contains-get_or, All-contains}
use Rattle.std.proofs.lemmas.Map.Lookups.{exact_unsigned}
use Rattle.std.proofs.lemmas.Map.Steps.{le-length_from_below}
use Rattle.graph_plan.specs.declared.plan.Edge.{Edge}
use Rattle.graph_plan.specs.declared.order.Neighbours.{Neighbours}
use Rattle.graph_plan.specs.declared.order.Progress.{Progress}
use Rattle.graph_plan.specs.declared.order.Arranged.{Arranged}
use Rattle.graph_plan.specs.declared.order.Arranged.TheVariants.{Cycle}
use Rattle.av_base.specs.First.{IsFirst}
use Rattle.av_base.proofs.Lists.{get_within, contained, contained_cases, place_of}
use Rattle.av_base.proofs.Arithmetic.{first_along}
use Rattle.graph_plan.specs.Orders.{Feeds, LeadsTo, Directly, Through, Reaches, IsReady, Comes, IsOrder, AreBelow}
use Rattle.graph_plan.specs.Arranging.{IsArranged, Has, HasAll, IsMarked, IsAlong, AreRows, AreAdded, AreNeighbours}
use Rattle.graph_plan.proofs.OrderLemmas.{is_listed}
use Rattle.graph_plan.proofs.BuiltOrder.{cases_listed, cases_ready, can_or_waits, all_done}
use Rattle.graph_plan.proofs.RowLemmas.{in_row}
use Rattle.graph_plan.proofs.ReachLemmas.{set_stays}

-- ---- a set with one more

head : (x : ℕ) (xs : List ℕ) (y : ℕ) → x ≡ y → Contains (x ∷ xs) y
head x xs y same = let P : ℕ → Type 0 = λ n. Contains (x ∷ xs) n in subst P same (contained (x ∷ xs) 0 x refl)

tail : (x : ℕ) (xs : List ℕ) (y : ℕ) → Contains xs y → Contains (x ∷ xs) y
tail x xs y here = Contains-append_right (x ∷ []) xs y here

insert_by : (x k f : ℕ) (xs : List ℕ) (o : Ordering) → nat_cmp k x ≡ o → (Contains (insert_key nat_cmp xs k) f ↔ (Contains xs f ⊎ (f ≡ k)))
    → Contains (match_ordering o (k ∷ x ∷ xs) (x ∷ xs) (x ∷ insert_key nat_cmp xs k)) f ↔ (Contains (x ∷ xs) f ⊎ (f ≡ k))
insert_by x k f xs Less e more = (
  λ here. elim (contained_cases k (x ∷ xs) f here) [ inl same ↦ inr (sym same) | inr old ↦ inl old ],
  λ both. elim both [ inl old ↦ tail k (x ∷ xs) f old | inr same ↦ head k (x ∷ xs) f (sym same) ],
)
insert_by x k f xs Equal e more = (
  λ here. inl here,
  λ both. elim both [ inl old ↦ old | inr same ↦ head x xs f (sym (same ∙ exact_unsigned k x e)) ],
)
insert_by x k f xs Greater e more = (
  λ here. elim (contained_cases x (insert_key nat_cmp xs k) f here) [
    | inl same ↦ inl (head x xs f same)
    | inr old ↦ elim (more.0 old) [ inl there ↦ inl (tail x xs f there) | inr same ↦ inr same ]
  ],
  λ both. elim both [
    | inl old ↦ elim (contained_cases x xs f old) [
      | inl same ↦ head x (insert_key nat_cmp xs k) f same
      | inr there ↦ tail x (insert_key nat_cmp xs k) f (more.1 (inl there))
    ]
    | inr same ↦ tail x (insert_key nat_cmp xs k) f (more.1 (inr same))
  ],
)

pub in_inserted : (keys : List ℕ) (k f : ℕ) → Contains (insert_key nat_cmp keys k) f ↔ (Contains keys f ⊎ (f ≡ k))
in_inserted [] k f = (
  λ here. elim (contained_cases k [] f here) [ inl same ↦ inr (sym same) | inr old ↦ inl old ],
  λ both. elim both [ inl old ↦ tail k [] f old | inr same ↦ head k [] f (sym same) ],
)
in_inserted (x ∷ xs) k f = insert_by x k f xs (nat_cmp k x) refl (in_inserted xs k f)

-- ---- filters that can come

-- if a row's items are all done
pub has_all : (givers : List (Vec ℕ Global)) (done : List Bool) (filter place : ℕ) (row : Vec ℕ Global) → slice_get givers filter ≡ Some row
    → ((k : ℕ) → k < place → k < length row.items → IsMarked done (slice_index row.items k)) → length row.items ≤ place → HasAll givers done filter
has_all givers done filter place row at passed past giver has =
    let where_at = place_of row.items giver (in_row givers filter giver row at has) in
    let is = passed where_at.0 (let low = where_at.1 in omega arith) where_at.1 in
    let P : ℕ → Type 0 = λ n. IsMarked done n in
    subst P (get_or_from_slice_get row.items where_at.0 giver 0 where_at.2) is

-- if one of them isn't
pub not_all : (givers : List (Vec ℕ Global)) (done : List Bool) (filter place : ℕ) (row : Vec ℕ Global) → slice_get givers filter ≡ Some row
    → place < length row.items → get_or done (slice_index row.items place) false ≡ false → HasAll givers done filter → ⊥
not_all givers done filter place row at low left all =
    let is = all (slice_index row.items place) (row, at, Contains-get_or row.items place 0 low) in
    cc

-- a filter's place moves on
pub along_next : (givers : List (Vec ℕ Global)) (old new : Progress) (filter place : ℕ) (row : Vec ℕ Global) → IsAlong givers old → filter < length old.done.items → slice_get givers filter ≡ Some row
    → ((k : ℕ) → k < place → k < length row.items → IsMarked old.done.items (slice_index row.items k)) → new.done.items ≡ old.done.items → new.next.items ≡ set old.next.items filter place
    → IsAlong givers new
along_next givers old new filter place row is low at passed done next = record {
  rows = rw done is.rows;
  places = rw (done, next) (length-set old.next.items filter place ∙ is.places);
  passed = λ taker other k here before within. elim (cases_eq taker filter) [
    | inl same ↦ (
        let P : ℕ → Type 0 = λ n. slice_get givers n ≡ Some row in
        let e : row ≡ other = same_Some row other (sym (subst P (sym same) at) ∙ here) in
        let Q : Vec ℕ Global → Type 0 = λ v. k < length v.items in
        let R : Vec ℕ Global → Type 0 = λ v. IsMarked old.done.items (slice_index v.items k) in
        let low : filter < length old.next.items = (let all = is.places in omega arith) in
        let moved : k < place = (let less = rw (next, same, get_or-set_same old.next.items filter place 0 low) at before in less) in
        rw done (subst R e (passed k moved (subst Q (sym e) within)))
        )
    | inr apart ↦ rw done (is.passed taker other k here (rw (next, get_or-set_other old.next.items filter taker place 0 apart) at before) within)
  ];
}

-- one more filter is done
pub along_done : (givers : List (Vec ℕ Global)) (old new : Progress) (filter : ℕ) → IsAlong givers old → filter < length old.done.items → new.done.items ≡ set old.done.items filter true → new.next.items ≡ old.next.items
    → IsAlong givers new
along_done givers old new filter is low done next = record {
  rows = rw (done, length-set old.done.items filter true) is.rows;
  places = rw (done, next, length-set old.done.items filter true) is.places;
  passed = λ taker row k at before within. rw done (set_stays old.done.items filter (slice_index row.items k) low (is.passed taker row k at (rw next at before) within));
}

pub added_ready : (givers : List (Vec ℕ Global)) (old new : Progress) (filter : ℕ) → IsAlong givers new → new.done.items ≡ old.done.items → new.ready.keys ≡ insert_key nat_cmp old.ready.keys filter → HasAll givers old.done.items filter
    → AreAdded givers (λ f. f ≡ filter) old new
added_ready givers old new filter is done keys all = record {
  along = is;
  same = done;
  ready = λ f. (
    λ here. elim ((in_inserted old.ready.keys filter f).0 (rw keys at here)) [
      | inl there ↦ inl there
      | inr same ↦ inr (same, (let P : ℕ → Type 0 = λ n. HasAll givers old.done.items n in subst P (sym same) all))
    ],
    λ both. rw keys ((in_inserted old.ready.keys filter f).1 (elim both [ inl there ↦ inl there | inr here ↦ inr here.0 ])),
  );
}

pub added_not : (givers : List (Vec ℕ Global)) (old new : Progress) (filter : ℕ) → IsAlong givers new → new.done.items ≡ old.done.items → new.ready.keys ≡ old.ready.keys → (HasAll givers old.done.items filter → ⊥)
    → AreAdded givers (λ f. f ≡ filter) old new
added_not givers old new filter is done keys none = record {
  along = is;
  same = done;
  ready = λ f. (
    λ here. inl (rw keys at here),
    λ both. elim both [
      | inl there ↦ rw keys there
      | inr here ↦ absurd (none (let P : ℕ → Type 0 = λ n. HasAll givers old.done.items n in subst P here.0 here.1))
    ],
  );
}

pub added_none : (givers : List (Vec ℕ Global)) (filters : ℕ → Type 0) (progress : Progress) → IsAlong givers progress → ((f : ℕ) → filters f → ⊥) → AreAdded givers filters progress progress
added_none givers filters progress is none = record {
  along = is;
  same = refl;
  ready = λ f. (λ here. inl here, λ both. elim both [ inl here ↦ here | inr some ↦ absurd (none f some.0) ]);
}

pub added_more : (givers : List (Vec ℕ Global)) (few more : ℕ → Type 0) (filter : ℕ) (first old new : Progress) → ((f : ℕ) → more f ↔ (few f ⊎ (f ≡ filter)))
    → AreAdded givers few first old → AreAdded givers (λ f. f ≡ filter) old new → AreAdded givers more first new
added_more givers few more filter first old new one are on = record {
  along = on.along;
  same = on.same ∙ are.same;
  ready = λ f. (
    λ here. elim ((on.ready f).0 here) [
      | inl there ↦ elim ((are.ready f).0 there) [
        | inl before ↦ inl before
        | inr some ↦ inr ((one f).1 (inl some.0), some.1)
      ]
      | inr last ↦ inr ((one f).1 (inr last.0), (let P : List Bool → Type 0 = λ d. HasAll givers d f in subst P are.same last.1))
    ],
    λ both. (on.ready f).1 (elim both [
      | inl before ↦ inl ((are.ready f).1 (inl before))
      | inr some ↦ elim ((one f).0 some.0) [
        | inl there ↦ inl ((are.ready f).1 (inr (there, some.1)))
        | inr last ↦ inr (last, (let P : List Bool → Type 0 = λ d. HasAll givers d f in subst P (sym are.same) some.1))
      ]
    ]),
  );
}

pub one_pushed : (filters : List ℕ) (filter f : ℕ) → Contains (filters ++ filter ∷ []) f ↔ (Contains filters f ⊎ (f ≡ filter))
one_pushed filters filter f = (
  λ here. elim (Contains-push_cases filters filter f here) [ inl there ↦ inl there | inr same ↦ inr (sym same) ],
  λ both. elim both [
    | inl there ↦ Contains-append_left filters (filter ∷ []) f there
    | inr same ↦ (let P : ℕ → Type 0 = λ n. Contains (filters ++ filter ∷ []) n in subst P (sym same) (Contains-push filters filter))
  ],
)

pub one_below : (filter f : ℕ) → (f < filter + 1) ↔ ((f < filter) ⊎ (f ≡ filter))
one_below filter f = (
  λ low. elim (cases_lt f filter) [ inl less ↦ inl less | inr past ↦ inr (omega arith) ],
  λ both. elim both [ inl less ↦ omega arith | inr same ↦ omega arith ],
)

-- those that a filter gives to were looked at
pub completed : (givers takers : List (Vec ℕ Global)) (filter : ℕ) (row : Vec ℕ Global) (old new : Progress) → slice_get takers filter ≡ Some row → AreAdded givers (Contains row.items) old new
    → (f : ℕ) → Contains new.ready.keys f ↔ (Contains old.ready.keys f ⊎ (Has takers filter f × HasAll givers new.done.items f))
completed givers takers filter row old new at are f = (
  λ here. elim ((are.ready f).0 here) [
    | inl before ↦ inl before
    | inr some ↦ inr ((row, at, some.0), (let P : List Bool → Type 0 = λ d. HasAll givers d f in subst P (sym are.same) some.1))
  ],
  λ both. (are.ready f).1 (elim both [
    | inl before ↦ inl before
    | inr some ↦ inr (in_row takers filter f row at some.0, (let P : List Bool → Type 0 = λ d. HasAll givers d f in subst P are.same some.1))
  ]),
)

-- ---- the beginning

pub replicate_all : {X : Type 0} (count k : ℕ) (x : X) → get_or (replicate count x) k x ≡ x
replicate_all count k x = elim (cases_lt k count) [
  | inl low ↦ get_or-replicate count k x x low
  | inr past ↦ get_or_past (replicate count x) k x (let long = length-replicate count x in omega arith)
]

pub along_none : (givers : List (Vec ℕ Global)) (count : ℕ) (progress : Progress) → AreRows count count givers → progress.done.items ≡ replicate count false → progress.next.items ≡ replicate count 0 → IsAlong givers progress
along_none givers count progress are done next = record {
  rows = rw (done, length-replicate count false) are;
  places = rw (done, next) (length-replicate count 0 ∙ sym (length-replicate count false));
  passed = λ taker row k at before within. absurd (let none : get_or (replicate count 0) taker 0 ≡ 0 = replicate_all {X = ℕ} count taker 0 in let less : k < get_or (replicate count 0) taker 0 = rw next at before in omega arith);
}

-- all filters were looked at
pub begun : (givers : List (Vec ℕ Global)) (count filter : ℕ) (first progress : Progress) → AreAdded givers (λ f. f < filter) first progress → first.ready.keys ≡ [] → filter ≡ count
    → (f : ℕ) → Contains progress.ready.keys f ↔ ((f < count) × HasAll givers progress.done.items f)
begun givers count filter first progress are none all f = (
  λ here. elim ((are.ready f).0 here) [
    | inl before ↦ absurd (let nowhere : Contains [] f = rw none at before in let k : nowhere.0 < 0 = nowhere.1 in omega arith)
    | inr some ↦ (
      (let low = some.0 in omega arith),
      (let P : List Bool → Type 0 = λ d. HasAll givers d f in subst P (sym are.same) some.1),
    )
  ],
  λ can. (are.ready f).1 (inr (
    (let low = can.0 in omega arith),
    (let P : List Bool → Type 0 = λ d. HasAll givers d f in subst P are.same can.1),
  )),
)

-- ---- the order

-- The first filters are in order, and done. Those that can come are ready. Whatever comes after the order completes it.
pub record Arranging (links : List Edge) (count index : ℕ) (neighbours : Neighbours) (order : List ℕ) (progress : Progress) : Type 0 where
  pub many : length order ≡ index
  pub all : length progress.done.items ≡ count
  pub along : IsAlong neighbours.givers.items progress
  pub are_done : (filter : ℕ) → Contains order filter → IsMarked progress.done.items filter
  pub in_order : (filter : ℕ) → IsMarked progress.done.items filter → Contains order filter
  pub closed : (giver taker : ℕ) → Feeds links giver taker → Contains order taker → Contains order giver
  pub ready : (filter : ℕ) → Contains progress.ready.keys filter ↔ ((filter < count) × (Contains order filter → ⊥) × IsReady (Feeds links) order filter)
  pub comes : (more : List ℕ) → Comes (Feeds links) count order more → IsOrder (Feeds links) count (order ++ more)

pub arranging_none : (links : List Edge) (count : ℕ) (neighbours : Neighbours) (progress : Progress) → AreNeighbours (Feeds links) count neighbours → IsAlong neighbours.givers.items progress → length progress.done.items ≡ count
    → ((filter : ℕ) → get_or progress.done.items filter false ≡ false)
    → ((filter : ℕ) → Contains progress.ready.keys filter ↔ ((filter < count) × HasAll neighbours.givers.items progress.done.items filter))
    → Arranging links count 0 neighbours [] progress
arranging_none links count neighbours progress are along all bare ready = record {
  many = refl;
  all = all;
  along = along;
  are_done = λ filter here. absurd (let k : here.0 < 0 = here.1 in omega arith);
  in_order = λ filter is. absurd (let no = bare filter in cc);
  closed = λ giver taker feeds here. absurd (let k : here.0 < 0 = here.1 in omega arith);
  ready = λ filter. (
    λ here. (
      ((ready filter).0 here).0,
      λ listed. (let k : listed.0 < 0 = listed.1 in omega arith),
      λ giver feeds. absurd (let is = ((ready filter).0 here).1 giver ((are.givers giver filter).1 feeds) in let no = bare giver in cc),
    ),
    λ can. (ready filter).1 (can.0, λ giver has. absurd (let here = can.2 giver ((are.givers giver filter).0 has) in let k : here.0 < 0 = here.1 in omega arith)),
  );
  comes = λ more h. h;
}

-- the lowest of those that are ready comes next
pub arranging_more : (links : List Edge) (count index filter : ℕ) (neighbours : Neighbours) (order rest : List ℕ) (old new : Progress) → AreBelow (Feeds links) count → AreNeighbours (Feeds links) count neighbours
    → Arranging links count index neighbours order old → old.ready.keys ≡ filter ∷ rest → ((other : ℕ) → Contains rest other → filter < other)
    → IsAlong neighbours.givers.items new → new.done.items ≡ set old.done.items filter true
    → ((f : ℕ) → Contains new.ready.keys f ↔ (Contains rest f ⊎ (Has neighbours.takers.items filter f × HasAll neighbours.givers.items new.done.items f)))
    → Arranging links count (index + 1) neighbours (order ++ filter ∷ []) new
arranging_more links count index filter neighbours order rest old new below are is keys above along done ready = record {
  many = (let many = is.many in omega (arith, many, length_push order filter));
  all = ap length done ∙ length-set old.done.items filter true ∙ is.all;
  along = along;
  are_done = are_done;
  in_order = in_order;
  closed = λ giver taker feeds here. Contains-append_left order (filter ∷ []) giver (elim (Contains-push_cases order filter taker here) [
    | inl before ↦ is.closed giver taker feeds before
    | inr same ↦ (let P : ℕ → Type 0 = λ n. Feeds links giver n in can.2 giver (subst P (sym same) feeds))
  ]);
  ready = λ f. (forth f, back f);
  comes = λ more h. rw append_assoc (is.comes (filter ∷ more) (can.0, can.1, can.2, lowest, h));
} where
  listed : (f : ℕ) → Contains old.ready.keys f → (filter ≡ f) ⊎ Contains rest f
  listed f here = contained_cases filter rest f (rw keys at here)

  first : Contains old.ready.keys filter
  first = rw keys (head filter rest filter refl)

  can : (filter < count) × (Contains order filter → ⊥) × IsReady (Feeds links) order filter
  can = (is.ready filter).0 first

  within : filter < length old.done.items
  within = let all = is.all in let low = can.0 in omega arith

  lowest : (other : ℕ) → other < filter → (Contains order other → ⊥) → IsReady (Feeds links) order other → ⊥
  lowest other less left could = elim (listed other ((is.ready other).1 (let low = can.0 in omega arith, left, could))) [
    | inl same ↦ omega arith
    | inr there ↦ (let more = above other there in omega arith)
  ]

  are_done : (other : ℕ) → Contains (order ++ filter ∷ []) other → IsMarked new.done.items other
  are_done other here = rw done (elim (Contains-push_cases order filter other here) [
    | inl before ↦ set_stays old.done.items filter other within (is.are_done other before)
    | inr same ↦ (let P : ℕ → Type 0 = λ n. IsMarked (set old.done.items filter true) n in subst P same (get_or-set_same old.done.items filter true false within))
  ])

  in_order : (other : ℕ) → IsMarked new.done.items other → Contains (order ++ filter ∷ []) other
  in_order other is_done = elim (cases_eq other filter) [
    | inl same ↦ (let P : ℕ → Type 0 = λ n. Contains (order ++ filter ∷ []) n in subst P (sym same) (Contains-push order filter))
    | inr apart ↦ Contains-append_left order (filter ∷ []) other (is.in_order other (rw (done, get_or-set_other old.done.items filter other true false apart) at is_done))
  ]

  forth : (f : ℕ) → Contains new.ready.keys f → (f < count) × (Contains (order ++ filter ∷ []) f → ⊥) × IsReady (Feeds links) (order ++ filter ∷ []) f
  forth f here = elim ((ready f).0 here) [
    | inl there ↦ (
        let could = (is.ready f).0 (rw keys (tail filter rest f there)) in (
          could.0,
          λ come. elim (Contains-push_cases order filter f come) [
            | inl before ↦ could.1 before
            | inr same ↦ (let more = above f there in omega arith)
          ],
          λ giver feeds. Contains-append_left order (filter ∷ []) giver (could.2 giver feeds),
        )
        )
    | inr freed ↦ (
        let feeds = (are.takers filter f).0 freed.0 in (
          below.takers filter f feeds,
          λ come. elim (Contains-push_cases order filter f come) [
            | inl before ↦ can.1 (is.closed filter f feeds before)
            | inr same ↦ (let P : ℕ → Type 0 = λ n. Feeds links filter n in can.1 (can.2 filter (subst P (sym same) feeds)))
          ],
          λ giver on. in_order giver (freed.1 giver ((are.givers giver f).1 on)),
        )
        )
  ]

  all_of : (f : ℕ) → IsReady (Feeds links) (order ++ filter ∷ []) f → HasAll neighbours.givers.items new.done.items f
  all_of f could giver has = are_done giver (could giver ((are.givers giver f).0 has))

  back : (f : ℕ) → (f < count) × (Contains (order ++ filter ∷ []) f → ⊥) × IsReady (Feeds links) (order ++ filter ∷ []) f → Contains new.ready.keys f
  back f could =
      let row = get_within neighbours.takers.items filter (let each = are.takers_each in let low = can.0 in omega arith) in
      elim (cases_listed row.0.items f) [
        | inl here ↦ (ready f).1 (inr ((row.0, row.1, here), all_of f could.2))
        | inr none ↦ (
            let before : IsReady (Feeds links) order f = λ giver feeds. elim (Contains-push_cases order filter giver (could.2 giver feeds)) [
              | inl old_one ↦ old_one
              | inr same ↦ absurd (
                  let P : ℕ → Type 0 = λ n. Feeds links n f in
                  none (in_row neighbours.takers.items filter f row.0 row.1 ((are.takers filter f).1 (subst P (sym same) feeds)))
                  )
            ] in
            let left : Contains order f → ⊥ = λ come. could.1 (Contains-append_left order (filter ∷ []) f come) in
            elim (listed f ((is.ready f).1 (could.0, left, before))) [
              | inl same ↦ absurd (let P : ℕ → Type 0 = λ n. Contains (order ++ filter ∷ []) n in could.1 (subst P same (Contains-push order filter)))
              | inr there ↦ (ready f).1 (inl there)
            ]
            )
      ]

-- if none is ready before all are done, some filter reaches itself
pub arranging_stuck : (links : List Edge) (count index : ℕ) (neighbours : Neighbours) (order : List ℕ) (progress : Progress) → AreBelow (Feeds links) count → Arranging links count index neighbours order progress
    → index < count → progress.ready.keys ≡ [] → ((filter : ℕ) → Reaches (Feeds links) filter filter → ⊥) → ⊥
arranging_stuck links count index neighbours order progress below is left none straight =
    let many = is.many in
    let full = le-length_from_below order count (λ filter low. is_listed order filter (all_done (Feeds links) count order below straight (λ other less. elim (can_or_waits (Feeds links) (cases_ready links) order other) [
      | inl can ↦ absurd (let here = (is.ready other).1 (less, can.0, can.1) in let P : List ℕ → Type 0 = λ xs. Contains xs other in let nowhere : Contains [] other = subst P none here in let k : nowhere.0 < 0 = nowhere.1 in omega arith)
      | inr waits ↦ waits
    ]) filter low)) in
    omega arith

-- all are in order
pub arranging_all : (links : List Edge) (count index : ℕ) (neighbours : Neighbours) (order : List ℕ) (progress : Progress) → Arranging links count index neighbours order progress → index ≡ count → IsOrder (Feeds links) count order
arranging_all links count index neighbours order progress is full = rw (append-nil order) at (is.comes [] (is.many ∙ full))

-- ---- a cycle

pub leads_along : (R S : ℕ → ℕ → Type 0) → ((giver taker : ℕ) → R giver taker → S giver taker) → (taker giver : ℕ) → LeadsTo R taker giver → LeadsTo S taker giver
leads_along R S along taker _ (Directly giver feeds) = Directly giver (along giver taker feeds)
leads_along R S along taker _ (Through giver middle feeds on) = Through giver middle (along giver middle feeds) (leads_along R S along taker middle on)

pub givers_rows : (links : List Edge) (count : ℕ) (neighbours : Neighbours) → AreBelow (Feeds links) count → AreNeighbours (Feeds links) count neighbours → AreRows count count neighbours.givers.items
givers_rows links count neighbours below are = record { each = are.givers_each; below = λ number item has. below.givers item number ((are.givers item number).0 has) }

pub takers_rows : (links : List Edge) (count : ℕ) (neighbours : Neighbours) → AreBelow (Feeds links) count → AreNeighbours (Feeds links) count neighbours → AreRows count count neighbours.takers.items
takers_rows links count neighbours below are = record { each = are.takers_each; below = λ number item has. below.takers number item ((are.takers number item).0 has) }

pub stuck_cycle : (links : List Edge) (count index : ℕ) (neighbours : Neighbours) (order : List ℕ) (progress : Progress) → AreBelow (Feeds links) count → AreNeighbours (Feeds links) count neighbours
    → Arranging links count index neighbours order progress → index < count → progress.ready.keys ≡ [] → ((filter : ℕ) → Reaches (Has neighbours.takers.items) filter filter → ⊥) → ⊥
stuck_cycle links count index neighbours order progress below are is left none straight = arranging_stuck links count index neighbours order progress below is left none (λ filter reaches.
    straight filter (leads_along (Feeds links) (Has neighbours.takers.items) (λ giver taker feeds. (are.takers giver taker).1 feeds) filter filter reaches))

-- the lowest filter that reaches itself over rows does so over links
pub named_cycle : (links : List Edge) (count : ℕ) (neighbours : Neighbours) (arranged : Arranged) → AreNeighbours (Feeds links) count neighbours
    → ((filter : ℕ) × (arranged ≡ Cycle filter) × IsFirst (λ f. Reaches (Has neighbours.takers.items) f f) filter) → IsArranged links count arranged
named_cycle links count neighbours arranged are named =
    let P : Arranged → Type 0 = λ a. IsArranged links count a in
    let takers = Has neighbours.takers.items in
    subst P (sym named.1) (first_along
    (λ f reaches. leads_along takers (Feeds links) (λ giver taker has. (are.takers giver taker).0 has) f f reaches)
    (λ f reaches. leads_along (Feeds links) takers (λ giver taker feeds. (are.takers giver taker).1 feeds) f f reaches)
    named.2)

-- the first of a set's numbers is less than the others
pub first_less : (filter : ℕ) (rest : List ℕ) → All (λ k. nat_cmp filter k ≡ Less) rest → (other : ℕ) → Contains rest other → filter < other
first_less filter rest all other here = let l = All-contains (λ k. nat_cmp filter k ≡ Less) rest other all here in ranked filter other Less (sym l)

pub next_low : (links : List Edge) (count index filter : ℕ) (neighbours : Neighbours) (order rest : List ℕ) (progress : Progress) → Arranging links count index neighbours order progress → progress.ready.keys ≡ filter ∷ rest
    → filter < length progress.done.items
next_low links count index filter neighbours order rest progress is keys =
    let can = (is.ready filter).0 (rw keys (head filter rest filter refl)) in
    let low = can.0 in
    let all = is.all in
    omega arith

pub no_keys : (keys : List ℕ) → (0 < length keys → false ≡ true) → keys ≡ []
no_keys [] some = refl
no_keys (x ∷ xs) some = absurd (let no = some (omega arith) in cc)
