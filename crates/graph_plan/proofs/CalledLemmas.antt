-- Tables of open pads by what they are called, and marks of those that are taken.
use Rattle.std.proofs.Common.{◌≡◌, ◌<◌, ◌≤◌, ◌+◌, ◌++◌, ℕ, List, [], ◌∷◌, Option, Some, None, Bool, true, length, take, get_or, set, refl, sym, ◌∙◌, ap, subst, inl, inr, arith, bytes_eq}
use Rattle.std.specs.Prelude.{MatchOption, IfSome}
use Rattle.std.specs.List.{slice_get, Contains}
use Rattle.std.specs.Map.{update}
use Rattle.std.proofs.lemmas.Bool.{cases_Bool, cases_order}
use Rattle.std.proofs.lemmas.List.{take_more, length-take-le, length-set}
use Rattle.std.proofs.lemmas.List.Elements.{Contains-push, Contains-push_cases, Contains-append_left}
use Rattle.std.proofs.lemmas.Option.{same_Some, slice_get_within}
use Rattle.std.proofs.lemmas.Slice.Eq.{bytes_eq-Decides}
use Rattle.graph_plan.specs.declared.plan.OpenOut.{OpenOut}
use Rattle.graph_plan.specs.declared.called.PadTable.{PadTable}
use Rattle.graph_plan.specs.Bindings.{Name, Label, Number, name_of, number_after, names, pad_names, IsPadOf}
use Rattle.av_base.specs.First.{IsFirst}
use Rattle.av_base.proofs.Lists.{pushed_at, append_get_left, append_get_right, get_within}
use Rattle.av_base.proofs.Arithmetic.{first_same, first_along}
use Rattle.graph_plan.specs.Places.{pad_called, AreCalled, IsLeft, MarksThese}
use Rattle.graph_plan.specs.Arranging.{IsMarked}
use Rattle.graph_plan.proofs.BindLemmas.{length-names}
use Rattle.graph_plan.proofs.ListLemmas.{cases_Option}
use Rattle.graph_plan.proofs.TurnLemmas.{marked_same, marked_stays, marked_why}

-- ---- names of one more

-- the number after all of these
abbrev pub number_past : {X : Type 0} → (X → Option (List ℕ)) → ℕ → List X → ℕ
number_past label n [] = n
number_past label n (x ∷ xs) = number_past label (number_after (label x) n) xs

pub names_push : {X : Type 0} (label : X → Option (List ℕ)) (n : ℕ) (xs : List X) (x : X)
    → names label n (xs ++ x ∷ []) ≡ names label n xs ++ name_of (label x) (number_past label n xs) ∷ []
names_push label n [] x = refl
names_push label n (y ∷ ys) x = ap (λ (rest : List Name). name_of (label y) n ∷ rest) (names_push label (number_after (label y) n) ys x)

pub number_push : {X : Type 0} (label : X → Option (List ℕ)) (n : ℕ) (xs : List X) (x : X) → number_past label n (xs ++ x ∷ []) ≡ number_after (label x) (number_past label n xs)
number_push label n [] x = refl
number_push label n (y ∷ ys) x = number_push label (number_after (label y) n) ys x

-- ---- the first of a name

-- whether a place is the first of a name, or there is none
abbrev pub Finds : List Name → Name → Option ℕ → Type 0
Finds all name found = MatchOption found ((o : ℕ) → slice_get all o ≡ Some name → ⊥) (IsFirst (λ o. slice_get all o ≡ Some name))

-- it stays so after one more, if that has another name or one that was there
finds_kept : (all : List Name) (last name : Name) (found : Option ℕ) → Finds all name found → (found ≡ None → last ≡ name → ⊥) → Finds (all ++ last ∷ []) name found
finds_kept all last name None is apart = λ o e. elim (pushed_at all last o name e) [ inl old ↦ is o old | inr end ↦ apart refl (sym end.1) ]
finds_kept all last name (Some place) is apart = record {
  holds = append_get_left all (last ∷ []) place name is.holds;
  none_before = λ other less e. elim (pushed_at all last other name e) [
    | inl old ↦ is.none_before other less old
    | inr end ↦ (let within = slice_get_within all place name is.holds in let at = end.0 in omega arith)
  ];
}

-- one more is the first of its name if none was there
finds_last : (all : List Name) (name : Name) (found : Option ℕ) → Finds all name found → found ≡ None → Finds (all ++ name ∷ []) name (Some (length all))
finds_last all name (Some place) is none = absurd (cc)
finds_last all name None is none = record {
  holds = (let end : length all + 0 ≡ length all = omega arith in rw end at (append_get_right all (name ∷ []) 0));
  none_before = λ other less e. elim (pushed_at all name other name e) [ inl old ↦ is other old | inr end ↦ (let at = end.0 in omega arith) ];
}

finds_as : (all : List Name) (name : Name) (found other : Option ℕ) → found ≡ other → Finds all name other → Finds all name found
finds_as all name found other same is = subst (Finds all name) (sym same) is

-- ---- one more pad

-- one without a label
pub called_number : (all : List Name) (place : ℕ) (table new : PadTable) → length all ≡ place → AreCalled all table → new.labelled ≡ table.labelled
    → new.numbered.items ≡ table.numbered.items ++ place ∷ [] → AreCalled (all ++ Number (length table.numbered.items) ∷ []) new
called_number all place table new each is same more (Label label) = rw same (finds_kept all (Number (length table.numbered.items)) (Label label) _ (is (Label label)) (λ none e. cc))
called_number all place table new each is same more (Number number) = rw more (elim (cases_order number (length numbered)) [
  | inl end ↦ finds_as (all ++ last ∷ []) (Number number) _ (Some place) (at_end end) (
      let P : ℕ → Type 0 = λ k. Finds (all ++ last ∷ []) (Number k) (Some place) in
      let Q : ℕ → Type 0 = λ k. Finds (all ++ last ∷ []) last (Some k) in
      subst P (sym end) (subst Q each (finds_last all last _ (is last) (past (length numbered) (omega arith))))
      )
  | inr apart ↦ elim apart [
    | inl low ↦ (
        let here = get_within numbered number low in
        let found : slice_get (numbered ++ place ∷ []) number ≡ slice_get numbered number = append_get_left numbered (place ∷ []) number here.0 here.1 ∙ sym here.1 in
        finds_as (all ++ last ∷ []) (Number number) _ _ found (finds_kept all last (Number number) _ (is (Number number)) (λ none e. let there = here.1 in cc))
        )
    | inr high ↦ (
        let none : slice_get (numbered ++ place ∷ []) number ≡ None = past_all high in
        let before = past number (omega arith) in
        finds_as (all ++ last ∷ []) (Number number) _ _ (none ∙ sym before) (finds_kept all last (Number number) _ (is (Number number)) (λ gone e. let same_number : length numbered ≡ number = cc in omega arith))
        )
  ]
]) where
  numbered : List ℕ
  numbered = table.numbered.items

  last : Name
  last = Number (length numbered)

  past : (k : ℕ) → length numbered ≤ k → slice_get numbered k ≡ None
  past k far = elim (cases_Option (slice_get numbered k)) [ inl some ↦ absurd (let low = slice_get_within numbered k some.0 some.1 in omega arith) | inr none ↦ none ]

  past_all : length numbered < number → slice_get (numbered ++ place ∷ []) number ≡ None
  past_all far = elim (cases_Option (slice_get (numbered ++ place ∷ []) number)) [
    | inl some ↦ elim (pushed_at numbered place number some.0 some.1) [
      | inl old ↦ absurd (let low = slice_get_within numbered number some.0 old in omega arith)
      | inr end ↦ absurd (let at = end.0 in omega arith)
    ]
    | inr none ↦ none
  ]

  at_end : number ≡ length numbered → slice_get (numbered ++ place ∷ []) number ≡ Some place
  at_end end = let here : number ≡ length numbered + 0 = omega arith in rw here (append_get_right numbered (place ∷ []) 0)

-- one whose label was there
pub called_again : (all : List Name) (label : List ℕ) (table : PadTable) → AreCalled all table → ((o : ℕ) × (pad_called table (Label label) ≡ Some o)) → AreCalled (all ++ Label label ∷ []) table
called_again all label table is has name = finds_kept all (Label label) name _ (is name) (λ none same.
    let P : Name → Type 0 = λ n. pad_called table n ≡ None in
    let here = subst P (sym same) none in
    let there = has.1 in cc)

-- one whose label is new
pub called_new : (all : List Name) (place : ℕ) (label : List ℕ) (table new : PadTable) → length all ≡ place → AreCalled all table → pad_called table (Label label) ≡ None
    → new.numbered ≡ table.numbered → ((other : List ℕ) → pad_called new (Label other) ≡ update bytes_eq (λ n. pad_called table (Label n)) label (Some place) other)
    → AreCalled (all ++ Label label ∷ []) new
called_new all place label table new each is none same more (Number number) = rw same (finds_kept all (Label label) (Number number) _ (is (Number number)) (λ gone e. cc))
called_new all place label table new each is none same more (Label other) = elim (cases_Bool (bytes_eq label other)) [
  | inl equal ↦ (
      let labels : label ≡ other = (bytes_eq-Decides label other).0 equal in
      let P : List ℕ → Type 0 = λ l. Finds (all ++ Label label ∷ []) (Label l) (Some place) in
      let Q : ℕ → Type 0 = λ k. Finds (all ++ Label label ∷ []) (Label label) (Some k) in
      finds_as (all ++ Label label ∷ []) (Label other) _ (Some place) (more other ∙ rw equal refl) (subst P labels (subst Q each (finds_last all (Label label) _ (is (Label label)) none)))
      )
  | inr differ ↦ finds_as (all ++ Label label ∷ []) (Label other) _ _ (more other ∙ rw differ refl) (
      finds_kept all (Label label) (Label other) _ (is (Label other)) (λ gone e. let labels : label ≡ other = cc in let equal = (bytes_eq-Decides label other).1 labels in cc)
      )
]

-- ---- all pads

-- one more of the pads
pub called_more : (pads : List OpenOut) (place : ℕ) (pad : OpenOut) (table new : PadTable) → place < length pads → pad ≡ get_or pads place pad
    → AreCalled (pad_names (take place pads)) table → length table.numbered.items ≡ number_past (λ (p : OpenOut). p.label) 0 (take place pads)
    → ((all : List Name) → length all ≡ place → AreCalled all table → AreCalled (all ++ name_of pad.label (length table.numbered.items) ∷ []) new)
    → length new.numbered.items ≡ number_after pad.label (length table.numbered.items)
    → AreCalled (pad_names (take (place + 1) pads)) new × (length new.numbered.items ≡ number_past (λ (p : OpenOut). p.label) 0 (take (place + 1) pads))
called_more pads place pad table new within is called numbered step count =
    let label : OpenOut → Option (List ℕ) = λ (p : OpenOut). p.label in
    let before = take place pads in
    let more : take (place + 1) pads ≡ before ++ pad ∷ [] = take_more pads place pad within ∙ ap (λ (p : OpenOut). before ++ p ∷ []) (sym is) in
    let each : length (pad_names before) ≡ place = length-names label 0 before ∙ length-take-le place pads (omega arith) in
    let P : ℕ → Type 0 = λ k. AreCalled (pad_names before ++ name_of pad.label k ∷ []) new in
    let named : AreCalled (pad_names before ++ name_of pad.label (number_past label 0 before) ∷ []) new = subst P numbered (step (pad_names before) each called) in
    let Q : List Name → Type 0 = λ all. AreCalled all new in
    let R : List OpenOut → Type 0 = λ xs. AreCalled (pad_names xs) new in (
      subst R (sym more) (subst Q (sym (names_push label 0 before pad)) named),
      count ∙ (ap (number_after pad.label) numbered ∙ (sym (number_push label 0 before pad) ∙ ap (λ (xs : List OpenOut). number_past label 0 xs) (sym more))),
    )

-- the place that a table has for a name is that of the first pad with the name
module _ (pads : List OpenOut) (table : PadTable) (called : AreCalled (pad_names pads) table) where
  pub found_pad : (name : Name) (o : ℕ) → pad_called table name ≡ Some o → IsPadOf pads name o
  found_pad name o e = go (pad_called table name) (called name) e where
    go : (found : Option ℕ) → Finds (pad_names pads) name found → found ≡ Some o → IsPadOf pads name o
    go None is none = absurd (cc)
    go (Some place) is same = subst (IsPadOf pads name) (same_Some place o same) is

  pub pad_found : (name : Name) (o : ℕ) → IsPadOf pads name o → pad_called table name ≡ Some o
  pad_found name o is = go (pad_called table name) (called name) where
    go : (found : Option ℕ) → Finds (pad_names pads) name found → found ≡ Some o
    go None none = absurd (none o is.holds)
    go (Some place) first = ap (λ (k : ℕ). Some k) (first_same first is)

  pub found_within : (count : ℕ) → count ≡ length pads → (name : Name) → IfSome (pad_called table name) (λ o. o < count)
  found_within count each name = go (pad_called table name) (called name) where
    go : (found : Option ℕ) → Finds (pad_names pads) name found → IfSome found (λ o. o < count)
    go None none = tt
    go (Some place) first = (let low = slice_get_within (pad_names pads) place name first.holds in omega (arith, each, length-names (λ (p : OpenOut). p.label) 0 pads))

-- ---- marks

pub marks_more : (count place : ℕ) (places : List ℕ) (marks : List Bool) → place < count → MarksThese count places marks → MarksThese count (places ++ place ∷ []) (set marks place true)
marks_more count place places marks low is = record {
  each = length-set marks place true ∙ is.each;
  marked = λ o. (
    λ set. elim (marked_why marks place o set) [
      | inl old ↦ Contains-append_left places (place ∷ []) o ((is.marked o).0 old)
      | inr same ↦ (let P : ℕ → Type 0 = Contains (places ++ place ∷ []) in subst P (sym same) (Contains-push places place))
    ],
    λ contains. elim (Contains-push_cases places place o contains) [
      | inl before ↦ marked_stays marks place o within ((is.marked o).1 before)
      | inr last ↦ (let P : ℕ → Type 0 = IsMarked (set marks place true) in subst P last (marked_same marks place within))
    ],
  );
} where
  within : place < length marks
  within = let each = is.each in omega arith

-- the first that isn't marked is the first that no place is
pub left_unmarked : {count : ℕ} {places : List ℕ} {marks : List Bool} {k : ℕ} → MarksThese count places marks → IsFirst (λ o. (o < length marks) × ¬ IsMarked marks o) k → IsFirst (IsLeft places count) k
left_unmarked {count} {places} {marks} {k} is left = first_along
    (λ o h. ((let each = is.each in let low = h.0 in omega arith), λ contains. h.1 ((is.marked o).1 contains)))
    (λ o h. ((let each = is.each in let low = h.0 in omega arith), λ marked. h.1 ((is.marked o).0 marked)))
    left

pub all_marked : {count : ℕ} {places : List ℕ} {marks : List Bool} → MarksThese count places marks → ((o : ℕ) → o < length marks → IsMarked marks o) → (o : ℕ) → o < count → Contains places o
all_marked {count} {places} {marks} is all o low = (is.marked o).0 (all o (let each = is.each in omega arith))
