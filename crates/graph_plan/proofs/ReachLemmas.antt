-- Walks from a filter over rows, with marks and a stack.
use Rattle.std.proofs.Common.{◌≡◌, ◌<◌, ◌+◌, ◌⊎◌, ℕ, List, [], ◌∷◌, ◌++◌, Bool, true, false, Some, Vec, Global, not, cond, length, set, get_or, refl, sym, subst, arith, inl, inr}
use Rattle.std.specs.List.{slice_get, Contains, count_by}
use Rattle.std.proofs.lemmas.Bool.{cases_eq, cases_lt, cases_Bool}
use Rattle.std.proofs.lemmas.List.{get_or-set_same, get_or-set_other, get_or_past}
use Rattle.std.proofs.lemmas.List.Elements.{Contains-push, Contains-push_cases, Contains-append_left}
use Rattle.std.proofs.lemmas.List.Sums.{sum_by-set}
use Rattle.graph_plan.specs.Orders.{LeadsTo, Directly, Through, Reaches}
use Rattle.graph_plan.specs.Arranging.{Has, IsMarked, AreMarked}
use Rattle.graph_plan.proofs.OrderLemmas.{leads_on}
use Rattle.graph_plan.proofs.RowLemmas.{in_row}

-- ---- marks

-- a filter past the marks isn't marked
marked_within : (marks : List Bool) (filter : ℕ) → IsMarked marks filter → filter < length marks
marked_within marks filter is = elim (cases_lt filter (length marks)) [
  | inl low ↦ low
  | inr past ↦ absurd (let no = get_or_past marks filter false past in cc)
]

pub set_stays : (marks : List Bool) (new filter : ℕ) → new < length marks → IsMarked marks filter → IsMarked (set marks new true) filter
set_stays marks new filter low is = elim (cases_eq filter new) [
  | inl same ↦ rw (same, get_or-set_same marks new true false low) refl
  | inr apart ↦ rw (get_or-set_other marks new filter true false apart) is
]

-- the number of those that are left to mark
pub unmarked_less : (marks : List Bool) (filter : ℕ) → filter < length marks → get_or marks filter false ≡ false → count_by not (set marks filter true) + 1 ≡ count_by not marks
unmarked_less marks filter low bare =
    let sums = rw bare at (sum_by-set (λ (b : Bool). cond (not b) 1 0) marks filter true false low) in
    omega (arith, sums)

pub marked_none : (marks : List Bool) (stack : List ℕ) → AreMarked (Contains []) marks marks stack stack
marked_none marks stack = record {
  marked = λ filter. (λ is. inl is, λ both. elim both [ inl is ↦ is | inr here ↦ absurd (let k : here.0 < 0 = here.1 in omega arith) ]);
  stacked = λ filter. (λ is. inl is, λ both. elim both [ inl is ↦ is | inr here ↦ absurd (let k : here.0.0 < 0 = here.0.1 in omega arith) ]);
}

-- one that is marked
pub marked_old : (before marks : List Bool) (first stack filters : List ℕ) (next : ℕ) → AreMarked (Contains filters) before marks first stack → IsMarked marks next
    → AreMarked (Contains (filters ++ next ∷ [])) before marks first stack
marked_old before marks first stack filters next are is = record {
  marked = λ filter. (
    λ yes. elim ((are.marked filter).0 yes) [ inl old ↦ inl old | inr here ↦ inr (Contains-append_left filters (next ∷ []) filter here) ],
    λ both. elim both [
      | inl old ↦ (are.marked filter).1 (inl old)
      | inr here ↦ elim (Contains-push_cases filters next filter here) [
        | inl there ↦ (are.marked filter).1 (inr there)
        | inr same ↦ (let P : ℕ → Type 0 = λ n. IsMarked marks n in subst P same is)
      ]
    ],
  );
  stacked = λ filter. (
    λ yes. elim ((are.stacked filter).0 yes) [ inl old ↦ inl old | inr here ↦ inr (Contains-append_left filters (next ∷ []) filter here.0, here.1) ],
    λ both. elim both [
      | inl old ↦ (are.stacked filter).1 (inl old)
      | inr here ↦ elim (Contains-push_cases filters next filter here.0) [
        | inl there ↦ (are.stacked filter).1 (inr (there, here.1))
        | inr same ↦ (
            let P : ℕ → Type 0 = λ n. IsMarked marks n in
            elim ((are.marked filter).0 (subst P same is)) [
              | inl old ↦ absurd (let bare = here.1 in cc)
              | inr there ↦ (are.stacked filter).1 (inr (there, here.1))
            ]
            )
      ]
    ],
  );
}

-- one that isn't marked
pub marked_new : (before marks : List Bool) (first stack filters : List ℕ) (next : ℕ) → AreMarked (Contains filters) before marks first stack → next < length marks → get_or marks next false ≡ false
    → AreMarked (Contains (filters ++ next ∷ [])) before (set marks next true) first (stack ++ next ∷ [])
marked_new before marks first stack filters next are low bare = record {
  marked = λ filter. (
    λ yes. elim (cases_eq filter next) [
      | inl same ↦ inr (let P : ℕ → Type 0 = λ n. Contains (filters ++ next ∷ []) n in subst P (sym same) (Contains-push filters next))
      | inr apart ↦ elim ((are.marked filter).0 (rw (get_or-set_other marks next filter true false apart) at yes)) [
        | inl old ↦ inl old
        | inr here ↦ inr (Contains-append_left filters (next ∷ []) filter here)
      ]
    ],
    λ both. elim both [
      | inl old ↦ set_stays marks next filter low ((are.marked filter).1 (inl old))
      | inr here ↦ elim (Contains-push_cases filters next filter here) [
        | inl there ↦ set_stays marks next filter low ((are.marked filter).1 (inr there))
        | inr same ↦ (let P : ℕ → Type 0 = λ n. IsMarked (set marks next true) n in subst P same (get_or-set_same marks next true false low))
      ]
    ],
  );
  stacked = λ filter. (
    λ yes. elim (Contains-push_cases stack next filter yes) [
      | inl there ↦ elim ((are.stacked filter).0 there) [
        | inl old ↦ inl old
        | inr here ↦ inr (Contains-append_left filters (next ∷ []) filter here.0, here.1)
      ]
      | inr same ↦ inr (
          let P : ℕ → Type 0 = λ n. Contains (filters ++ next ∷ []) n × (get_or before n false ≡ false) in
          subst P same (Contains-push filters next, was)
          )
    ],
    λ both. elim both [
      | inl old ↦ Contains-append_left stack (next ∷ []) filter ((are.stacked filter).1 (inl old))
      | inr here ↦ elim (Contains-push_cases filters next filter here.0) [
        | inl there ↦ Contains-append_left stack (next ∷ []) filter ((are.stacked filter).1 (inr (there, here.1)))
        | inr same ↦ (let P : ℕ → Type 0 = λ n. Contains (stack ++ next ∷ []) n in subst P same (Contains-push stack next))
      ]
    ],
  );
} where
  was : get_or before next false ≡ false
  was = elim (cases_Bool (get_or before next false)) [
    | inl before_too ↦ absurd (let is = (are.marked next).1 (inl before_too) in cc)
    | inr bare_too ↦ bare_too
  ]

-- ---- a walk

-- the filter itself, or a marked one
abbrev pub Leads : ℕ → List Bool → ℕ → Type 0
Leads filter marks giver = (giver ≡ filter) ⊎ IsMarked marks giver

-- What is marked is reached. For each filter that the walk has passed, all next ones are marked. The others are on the
-- stack.
pub record Walking (takers : List (Vec ℕ Global)) (filter : ℕ) (marks : List Bool) (stack : List ℕ) : Type 0 where
  pub reached : (taker : ℕ) → IsMarked marks taker → Reaches (Has takers) filter taker
  pub stacked : (giver : ℕ) → Contains stack giver → Leads filter marks giver
  pub passed : (giver taker : ℕ) → Leads filter marks giver → Has takers giver taker → Contains stack giver ⊎ IsMarked marks taker

-- the filter on top of the stack has a mark
pub top_within : (takers : List (Vec ℕ Global)) (filter giver : ℕ) (marks : List Bool) (stack rest : List ℕ) → Walking takers filter marks stack → stack ≡ rest ++ giver ∷ [] → filter < length marks → giver < length marks
top_within takers filter giver marks stack rest is top low = elim (is.stacked giver here) [
  | inl same ↦ omega arith
  | inr marked ↦ marked_within marks giver marked
] where
  here : Contains stack giver
  here = let P : List ℕ → Type 0 = λ xs. Contains xs giver in subst P (sym top) (Contains-push rest giver)

-- the walk goes on at the filter on top of the stack
pub walking_more : (takers : List (Vec ℕ Global)) (filter giver : ℕ) (row : Vec ℕ Global) (old new : List Bool) (stack rest next : List ℕ) → Walking takers filter old stack
    → stack ≡ rest ++ giver ∷ [] → slice_get takers giver ≡ Some row → AreMarked (Contains row.items) old new rest next → Walking takers filter new next
walking_more takers filter giver row old new stack rest next is top at are = record {
  reached = λ taker yes. elim ((are.marked taker).0 yes) [
    | inl before ↦ is.reached taker before
    | inr here ↦ on taker (row, at, here)
  ];
  stacked = λ other here. elim ((are.stacked other).0 here) [
    | inl before ↦ grown other (is.stacked other (below other before))
    | inr added ↦ inr ((are.marked other).1 (inr added.0))
  ];
  passed = λ other taker leads has. elim (was other leads) [
    | inl before ↦ elim (is.passed other taker before has) [
      | inl there ↦ elim (Contains-push_cases rest giver other (let P : List ℕ → Type 0 = λ xs. Contains xs other in subst P top there)) [
        | inl low ↦ inl ((are.stacked other).1 (inl low))
        | inr same ↦ inr (
            let P : ℕ → Type 0 = λ n. Has takers n taker in
            (are.marked taker).1 (inr (in_row takers giver taker row at (subst P (sym same) has)))
            )
      ]
      | inr marked ↦ inr ((are.marked taker).1 (inl marked))
    ]
    | inr added ↦ inl ((are.stacked other).1 (inr added))
  ];
} where
  below : (other : ℕ) → Contains rest other → Contains stack other
  below other here = let P : List ℕ → Type 0 = λ xs. Contains xs other in subst P (sym top) (Contains-append_left rest (giver ∷ []) other here)

  leads : Leads filter old giver
  leads = is.stacked giver (let P : List ℕ → Type 0 = λ xs. Contains xs giver in subst P (sym top) (Contains-push rest giver))

  on : (taker : ℕ) → Has takers giver taker → Reaches (Has takers) filter taker
  on taker has = elim leads [
    | inl same ↦ (let P : ℕ → Type 0 = λ n. Has takers n taker in Directly filter (subst P same has))
    | inr marked ↦ leads_on (Has takers) giver taker filter (is.reached giver marked) has
  ]

  grown : (other : ℕ) → Leads filter old other → Leads filter new other
  grown other way = elim way [ inl same ↦ inl same | inr marked ↦ inr ((are.marked other).1 (inl marked)) ]

  was : (other : ℕ) → Leads filter new other → Leads filter old other ⊎ (Contains row.items other × (get_or old other false ≡ false))
  was other way = elim way [
    | inl same ↦ inl (inl same)
    | inr marked ↦ elim (cases_Bool (get_or old other false)) [
      | inl marked_before ↦ inl (inr marked_before)
      | inr bare ↦ elim ((are.marked other).0 marked) [ inl old_one ↦ inl (inr old_one) | inr here ↦ inr (here, bare) ]
    ]
  ]

-- if the stack is empty, all that is reached is marked
walked : (takers : List (Vec ℕ Global)) (filter : ℕ) (marks : List Bool) → Walking takers filter marks [] → (taker giver : ℕ) → LeadsTo (Has takers) taker giver → Leads filter marks giver → IsMarked marks taker
walked takers filter marks is taker _ (Directly giver has) leads = elim (is.passed giver taker leads has) [
  | inl here ↦ absurd (let k : here.0 < 0 = here.1 in omega arith)
  | inr marked ↦ marked
]
walked takers filter marks is taker _ (Through giver middle has on) leads =
    let next : IsMarked marks middle = elim (is.passed giver middle leads has) [
      | inl here ↦ absurd (let k : here.0 < 0 = here.1 in omega arith)
      | inr marked ↦ marked
    ] in
    walked takers filter marks is taker middle on (inr next)

pub walked_all : (takers : List (Vec ℕ Global)) (filter : ℕ) (marks : List Bool) (stack : List ℕ) → Walking takers filter marks stack → stack ≡ [] → get_or marks filter false ≡ false → Reaches (Has takers) filter filter → ⊥
walked_all takers filter marks stack is empty bare reaches =
    let P : List ℕ → Type 0 = λ xs. Walking takers filter marks xs in
    let yes = walked takers filter marks (subst P empty is) filter filter reaches (inl refl) in
    cc

pub no_items : (xs : List ℕ) → length xs ≡ 0 → xs ≡ []
no_items [] e = refl
no_items (x ∷ xs) e = absurd (omega arith)
