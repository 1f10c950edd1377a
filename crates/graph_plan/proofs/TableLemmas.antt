-- Tables of labels, as far as places were seen.
use Rattle.std.proofs.Common.{◌≡◌, ◌<◌, ◌≤◌, ◌++◌, ◌⊎◌, ℕ, List, [], ◌∷◌, Option, Some, None, true, false, length, refl, sym, ◌∙◌, ap, subst, inl, inr, arith, bytes_eq}
use Rattle.std.specs.Prelude.{MatchOption}
use Rattle.std.specs.List.{slice_get}
use Rattle.std.specs.Option.{option_or, is_some}
use Rattle.std.specs.Map.{update}
use Rattle.std.proofs.lemmas.Bool.{cases_Bool, cases_order}
use Rattle.std.proofs.lemmas.Option.{same_Some, slice_get_within}
use Rattle.std.proofs.lemmas.Slice.Eq.{bytes_eq-Decides}
use Rattle.graph_plan.specs.declared.places.Place.{Place}
use Rattle.graph_plan.specs.declared.places.Side.{Side}
use Rattle.graph_plan.specs.declared.places.Side.TheVariants.{In, Out}
use Rattle.graph_plan.specs.declared.labels.LabelTable.{LabelTable}
use Rattle.graph_plan.specs.Graphs.{Graph, places, IsBefore, labels, label}
use Rattle.graph_plan.specs.Joining.{pad_of, HasPad, IsRepeated, IsFirstTwice, HasSeen, Notes, IsLesser}
use Rattle.graph_text.specs.declared.graph.FilterCall.{FilterCall}
use Rattle.av_base.specs.First.{IsFirst, Never}
use Rattle.av_base.proofs.Lists.{place_of, pushed_at, append_get_left, pushed_last}
use Rattle.av_base.proofs.Arithmetic.{first_along}
use Rattle.graph_plan.specs.Refusals.{IsTwice, IsOnOutput, HasLabelTwice}
use Rattle.graph_plan.proofs.GraphLemmas.{item_places, places_rise, not_before_itself}
use Rattle.graph_plan.proofs.ListLemmas.{cases_Option}

-- ---- whether there is one

pub some_found : {X : Type 0} (o : Option X) → is_some o ≡ true → (x : X) × (o ≡ Some x)
some_found None is = absurd (cc)
some_found (Some x) is = (x, refl)

pub none_found : {X : Type 0} (o : Option X) → is_some o ≡ false → o ≡ None
none_found None is = refl
none_found (Some x) is = absurd (cc)

pub found_some : {X : Type 0} (o : Option X) (x : X) → o ≡ Some x → is_some o ≡ true
found_some o x is = ap is_some is

-- ---- places before others

not_both_before : (a b : Place) → IsBefore a b → IsBefore b a → ⊥
not_both_before a b before back = elim before [
  | inl less ↦ elim back [ inl more ↦ omega arith | inr same ↦ (let e = same.0 in omega arith) ]
  | inr same ↦ elim back [ inl more ↦ (let e = same.0 in omega arith) | inr too ↦ (let one = same.1 in let two = too.1 in omega arith) ]
]

pub not_lower : (a b : Place) → IsBefore a b → b.filter < a.filter → ⊥
not_lower a b before low = elim before [ inl less ↦ omega arith | inr same ↦ (let e = same.0 in omega arith) ]

module _ (graph : Graph) (side : Side) (Such : List ℕ → Type 0) where
  -- ---- places whose label occurs twice

  repeated_more : (seen : List Place) (last : Place) (at : ℕ) (place : Place) → IsRepeated graph side Such seen at place → IsRepeated graph side Such (seen ++ last ∷ []) at place
  repeated_more seen last at place is = record {
    here = append_get_left seen (last ∷ []) at place is.here;
    name = is.name;
    such = is.such;
    is_label = is.is_label;
    before = is.before;
    earlier = is.earlier;
    there = append_get_left seen (last ∷ []) is.before is.earlier is.there;
    is_label_too = is.is_label_too;
    lower = is.lower;
  }

  repeated_back : (seen : List Place) (last : Place) (at : ℕ) (place : Place) → IsRepeated graph side Such (seen ++ last ∷ []) at place
      → IsRepeated graph side Such seen at place ⊎ ((at ≡ length seen) × (place ≡ last))
  repeated_back seen last at place is = elim (pushed_at seen last at place is.here) [
    | inl here ↦ inl (record {
      here = here;
      name = is.name;
      such = is.such;
      is_label = is.is_label;
      before = is.before;
      earlier = is.earlier;
      there = elim (pushed_at seen last is.before is.earlier is.there) [
        | inl there ↦ there
        | inr end ↦ absurd (let low = slice_get_within seen at place here in let lower = is.lower in let at_end = end.0 in omega arith)
      ];
      is_label_too = is.is_label_too;
      lower = is.lower;
    })
    | inr end ↦ inr end
  ]

  -- the first that occurs twice stays the first
  twice_kept : (seen : List Place) (last : Place) (twice : Option ℕ) → IsFirstTwice graph side Such seen twice
      → (twice ≡ None → IsRepeated graph side Such (seen ++ last ∷ []) (length seen) last → ⊥) → IsFirstTwice graph side Such (seen ++ last ∷ []) twice
  twice_kept seen last None is not = λ at place repeated. elim (repeated_back seen last at place repeated) [
    | inl old ↦ is at place old
    | inr end ↦ (
        let P : ℕ → Type 0 = λ k. IsRepeated graph side Such (seen ++ last ∷ []) k place in
        let Q : Place → Type 0 = λ p. IsRepeated graph side Such (seen ++ last ∷ []) (length seen) p in
        not refl (subst Q end.1 (subst P end.0 repeated))
        )
  ]
  twice_kept seen last (Some filter) is not = (
    is.0,
    is.1,
    repeated_more seen last is.0 is.1 is.2,
    is.3,
    λ other another lower repeated. elim (repeated_back seen last other another repeated) [
      | inl old ↦ is.4 other another lower old
      | inr end ↦ (let low = slice_get_within seen is.0 is.1 is.2.here in let at_end = end.0 in omega arith)
    ],
  )

  -- the last occurs twice
  twice_more : (seen : List Place) (last : Place) (twice : Option ℕ) → IsFirstTwice graph side Such seen twice → IsRepeated graph side Such (seen ++ last ∷ []) (length seen) last
      → IsFirstTwice graph side Such (seen ++ last ∷ []) (option_or twice (Some last.filter))
  twice_more seen last None is repeated = (
    length seen,
    last,
    repeated,
    refl,
    λ other another lower repeated_too. elim (repeated_back seen last other another repeated_too) [
      | inl old ↦ is other another old
      | inr end ↦ (let at_end = end.0 in omega arith)
    ],
  )
  twice_more seen last (Some filter) is repeated = twice_kept seen last (Some filter) is (λ none. absurd (cc))

  -- ---- one more place

  -- its label is none that is noted
  pub seen_skip : (seen : List Place) (place : Place) (table : LabelTable) → HasSeen graph side Such seen table
      → ((name : List ℕ) → label graph side place.filter place.pad ≡ Some name → Such name → ⊥) → HasSeen graph side Such (seen ++ place ∷ []) table
  seen_skip seen place table is none = record {
    pad = λ name found has. let old = is.pad name found has in ((old.0.0, append_get_left seen (place ∷ []) old.0.0 found old.0.1), old.1, old.2);
    all = λ at other name here labelled such. elim (pushed_at seen place at other here) [
      | inl old ↦ is.all at other name old labelled such
      | inr end ↦ absurd (let P : Place → Type 0 = λ p. label graph side p.filter p.pad ≡ Some name in none name (subst P end.1 labelled) such)
    ];
    twice = twice_kept seen place table.twice is.twice (λ not repeated. none repeated.name repeated.is_label repeated.such);
  }

  -- its label was noted already
  pub seen_again : (seen : List Place) (place : Place) (name : List ℕ) (table new : LabelTable) → HasSeen graph side Such seen table → label graph side place.filter place.pad ≡ Some name
      → Such name → HasPad table name → new.pads ≡ table.pads → new.twice ≡ option_or table.twice (Some place.filter) → HasSeen graph side Such (seen ++ place ∷ []) new
  seen_again seen place name table new is labelled such has pads twice = record {
    pad = λ other found here. let old = is.pad other found (rw pads at here) in ((old.0.0, append_get_left seen (place ∷ []) old.0.0 found old.0.1), old.1, old.2);
    all = λ at other called here labelled_so such_too. rw pads (elim (pushed_at seen place at other here) [
      | inl old ↦ is.all at other called old labelled_so such_too
      | inr end ↦ (
          let P : Place → Type 0 = λ p. label graph side p.filter p.pad ≡ Some called in
          let Q : List ℕ → Type 0 = λ n. HasPad table n in
          subst Q (same_Some name called (sym labelled ∙ subst P end.1 labelled_so)) has
          )
    ]);
    twice = rw twice (twice_more seen place table.twice is.twice (
        let old = is.pad name has.0 has.1 in record {
          here = pushed_last seen place;
          name = name;
          such = such;
          is_label = labelled;
          before = old.0.0;
          earlier = has.0;
          there = append_get_left seen (place ∷ []) old.0.0 has.0 old.0.1;
          is_label_too = old.1;
          lower = slice_get_within seen old.0.0 has.0 old.0.1;
        }
        ));
  }

  -- its label is noted now
  pub seen_new : (seen : List Place) (place : Place) (name : List ℕ) (table new : LabelTable) → HasSeen graph side Such seen table → label graph side place.filter place.pad ≡ Some name
      → Such name → (HasPad table name → ⊥) → ((other : List ℕ) → pad_of new other ≡ update bytes_eq (pad_of table) name (Some place) other) → new.twice ≡ table.twice
      → HasSeen graph side Such (seen ++ place ∷ []) new
  seen_new seen place name table new is labelled such none pads twice = record {
    pad = found;
    all = λ at other called here labelled_so such_too. elim (pushed_at seen place at other here) [
      | inl old ↦ kept called (is.all at other called old labelled_so such_too)
      | inr end ↦ (
          let P : Place → Type 0 = λ p. label graph side p.filter p.pad ≡ Some called in
          let Q : List ℕ → Type 0 = λ n. HasPad new n in
          subst Q (same_Some name called (sym labelled ∙ subst P end.1 labelled_so)) (place, pads name ∙ at_name name refl)
          )
    ];
    twice = rw twice (twice_kept seen place table.twice is.twice (λ not repeated. not_twice repeated));
  } where
    at_name : (other : List ℕ) → name ≡ other → update bytes_eq (pad_of table) name (Some place) other ≡ Some place
    at_name other same = let equal = (bytes_eq-Decides name other).1 same in rw equal refl

    at_other : (other : List ℕ) → (name ≡ other → ⊥) → update bytes_eq (pad_of table) name (Some place) other ≡ pad_of table other
    at_other other apart = elim (cases_Bool (bytes_eq name other)) [
      | inl equal ↦ absurd (apart ((bytes_eq-Decides name other).0 equal))
      | inr differ ↦ rw differ refl
    ]

    is_it : (other : List ℕ) → (name ≡ other) ⊎ (name ≡ other → ⊥)
    is_it other = elim (cases_Bool (bytes_eq name other)) [
      | inl equal ↦ inl ((bytes_eq-Decides name other).0 equal)
      | inr differ ↦ inr (λ same. let equal = (bytes_eq-Decides name other).1 same in cc)
    ]

    found : (other : List ℕ) (at_place : Place) → pad_of new other ≡ Some at_place
        → ((at : ℕ) × (slice_get (seen ++ place ∷ []) at ≡ Some at_place)) × (label graph side at_place.filter at_place.pad ≡ Some other) × Such other
    found other at_place has = elim (is_it other) [
      | inl same ↦ (
          let here : place ≡ at_place = same_Some place at_place (sym (pads other ∙ at_name other same) ∙ has) in
          let P : Place → Type 0 = λ p. slice_get (seen ++ place ∷ []) (length seen) ≡ Some p in
          let Q : Place → Type 0 = λ p. label graph side p.filter p.pad ≡ Some other in
          let R : List ℕ → Type 0 = λ n. label graph side place.filter place.pad ≡ Some n in
          ((length seen, subst P here (pushed_last seen place)), subst Q here (subst R same labelled), subst Such same such)
          )
      | inr apart ↦ (
          let old = is.pad other at_place (sym (pads other ∙ at_other other apart) ∙ has) in
          ((old.0.0, append_get_left seen (place ∷ []) old.0.0 at_place old.0.1), old.1, old.2)
          )
    ]

    kept : (other : List ℕ) → HasPad table other → HasPad new other
    kept other has = elim (is_it other) [
      | inl same ↦ (place, pads other ∙ at_name other same)
      | inr apart ↦ (has.0, pads other ∙ (at_other other apart ∙ has.1))
    ]

    not_twice : IsRepeated graph side Such (seen ++ place ∷ []) (length seen) place → ⊥
    not_twice repeated =
        let same : name ≡ repeated.name = same_Some name repeated.name (sym labelled ∙ repeated.is_label) in
        let P : List ℕ → Type 0 = λ n. HasPad table n in
        elim (pushed_at seen place repeated.before repeated.earlier repeated.there) [
          | inl old ↦ none (subst P (sym same) (is.all repeated.before repeated.earlier repeated.name old repeated.is_label_too repeated.such))
          | inr end ↦ (let lower = repeated.lower in let at_end = end.0 in omega arith)
        ]

  -- ---- all places

  pub seen_none : (table : LabelTable) → ((name : List ℕ) → pad_of table name ≡ None) → table.twice ≡ None → HasSeen graph side Such [] table
  seen_none table bare none = record {
    pad = λ name place has. absurd (let not = bare name in cc);
    all = λ at place name here. absurd (cc);
    twice = rw none (λ at place repeated. let here = repeated.here in cc);
  }

  -- what the table has, once the places of all labels were seen
  pub seen_all : (seen : List Place) (table : LabelTable) → seen ≡ places (λ (c : FilterCall). length (labels side c)) 0 graph.calls → HasSeen graph side Such seen table → Notes graph side Such table
  seen_all seen table all_seen is = record {
    pad = λ name place has. (let old = is.pad name place has in (old.1, old.2));
    all = λ filter pad name labelled such. let at = seen_at filter pad name labelled in is.all at.0 (record { filter = filter; pad = pad }) name at.1 labelled such;
    twice = first table.twice is.twice;
  } where
    seen_at : (filter pad : ℕ) (name : List ℕ) → label graph side filter pad ≡ Some name → (at : ℕ) × (slice_get seen at ≡ Some (record { filter = filter; pad = pad }))
    seen_at filter pad name labelled =
        let here = place_of _ _ (item_places (labels side) graph.calls (record { filter = filter; pad = pad }) name labelled) in
        (here.0, rw all_seen here.2)

    -- of two places that both have a label, the earlier one comes first in the list
    order : (i j : ℕ) (a b : Place) → slice_get seen i ≡ Some a → slice_get seen j ≡ Some b → IsBefore a b → i < j
    order i j a b is_a is_b before = elim (cases_order i j) [
      | inl same ↦ absurd (
          let equal : a ≡ b = same_Some a b (sym is_a ∙ (ap (slice_get seen) same ∙ is_b)) in
          let P : Place → Type 0 = λ p. IsBefore p b in not_before_itself b (subst P equal before)
          )
      | inr apart ↦ elim apart [
        | inl less ↦ less
        | inr more ↦ absurd (let back = places_rise _ 0 graph.calls j i b a (rw all_seen at is_b) (rw all_seen at is_a) more in not_both_before a b before back)
      ]
    ]

    repeated : (filter : ℕ) → IsTwice graph side Such filter → (at : ℕ) × (place : Place) × IsRepeated graph side Such seen at place × (place.filter ≡ filter)
    repeated filter twice =
        let here = seen_at filter twice.pad twice.name twice.has in
        let there = seen_at twice.earlier.filter twice.earlier.pad twice.name twice.has_too in (
          here.0,
          record { filter = filter; pad = twice.pad },
          record {
            here = here.1;
            name = twice.name;
            such = twice.such;
            is_label = twice.has;
            before = there.0;
            earlier = twice.earlier;
            there = there.1;
            is_label_too = twice.has_too;
            lower = order there.0 here.0 twice.earlier (record { filter = filter; pad = twice.pad }) there.1 here.1 twice.before;
          },
          refl,
        )

    first : (twice : Option ℕ) → IsFirstTwice graph side Such seen twice → MatchOption twice (Never (IsTwice graph side Such)) (IsFirst (IsTwice graph side Such))
    first None none = λ filter twice. let so = repeated filter twice in none so.0 so.1 so.2
    first (Some filter) found = record {
      holds = (
          let s = found.2 in
          let P : ℕ → Type 0 = λ f. IsTwice graph side Such f in
          subst P found.3 (record {
            name = s.name;
            such = s.such;
            pad = found.1.pad;
            has = s.is_label;
            earlier = s.earlier;
            has_too = s.is_label_too;
            before = places_rise _ 0 graph.calls s.before found.0 s.earlier found.1 (rw all_seen at s.there) (rw all_seen at s.here) s.lower;
          })
          );
      none_before = λ other lower twice. (
          let so = repeated other twice in
          elim (cases_order so.0 found.0) [
            | inl same ↦ (
                let equal : so.1 ≡ found.1 = same_Some so.1 found.1 (sym so.2.here ∙ (ap (slice_get seen) same ∙ found.2.here)) in
                let filters = ap (λ (p : Place). p.filter) equal in
                let one = so.3 in let two = found.3 in omega arith
                )
            | inr apart ↦ elim apart [
              | inl less ↦ found.4 so.0 so.1 less so.2
              | inr more ↦ (
                  let back = places_rise _ 0 graph.calls found.0 so.0 found.1 so.1 (rw all_seen at found.2.here) (rw all_seen at so.2.here) more in
                  let one = so.3 in let two = found.3 in not_lower found.1 so.1 back (omega arith)
                  )
            ]
          ]
          );
    }

-- ---- both tables

match_none : {X : Type 0} (o : Option X) (P : Type 0) (Q : X → Type 0) → MatchOption o P Q → o ≡ None → P
match_none None P Q is none = is
match_none (Some x) P Q is none = absurd (cc)

match_some : {X : Type 0} (o : Option X) (P : Type 0) (Q : X → Type 0) → MatchOption o P Q → (x : X) → o ≡ Some x → Q x
match_some None P Q is x some = absurd (cc)
match_some (Some y) P Q is x some = subst Q (same_Some y x some) is

twice_along : (graph : Graph) (side : Side) (P Q : List ℕ → Type 0) → ((name : List ℕ) → P name → Q name) → (filter : ℕ) → IsTwice graph side P filter → IsTwice graph side Q filter
twice_along graph side P Q along filter is = record {
  name = is.name;
  such = along is.name is.such;
  pad = is.pad;
  has = is.has;
  earlier = is.earlier;
  has_too = is.has_too;
  before = is.before;
}

module _ (graph : Graph) (outs ins : LabelTable) (notes_out : Notes graph Out (λ name. Unit {0}) outs) (notes_in : Notes graph In (HasPad outs) ins) where
  -- the labels that the table of outputs has are those of output pads
  pub has_on_output : (name : List ℕ) → HasPad outs name → IsOnOutput graph name
  has_on_output name has = (has.0.filter, has.0.pad, (notes_out.pad name has.0 has.1).0)

  pub on_output_has : (name : List ℕ) → IsOnOutput graph name → HasPad outs name
  on_output_has name on = notes_out.all on.0 on.1 name on.2 tt

  twice_in : (filter : ℕ) → IsTwice graph In (HasPad outs) filter → HasLabelTwice graph filter
  twice_in filter is = inr (twice_along graph In (HasPad outs) (IsOnOutput graph) has_on_output filter is)

  -- what occurs twice on a side comes no earlier than the first that was noted
  not_lower_than : (P : ℕ → Type 0) (twice : Option ℕ) → MatchOption twice (Never P) (IsFirst P) → (k : ℕ) → ((m : ℕ) → twice ≡ Some m → k ≤ m) → (other : ℕ) → other < k → P other → ⊥
  not_lower_than P twice is k low other less holds = elim (cases_Option twice) [
    | inl some ↦ (let first = match_some twice (Never P) (IsFirst P) is some.0 some.1 in let bound = low some.0 some.1 in first.none_before other (omega arith) holds)
    | inr none ↦ match_none twice (Never P) (IsFirst P) is none other holds
  ]

  pub lowest_twice : (k : ℕ) → IsLesser outs.twice ins.twice (Some k) → IsFirst (HasLabelTwice graph) k
  lowest_twice k is = record {
    holds = elim is.0 [
      | inl out ↦ inl (match_some outs.twice _ (IsFirst (IsTwice graph Out (λ name. Unit {0}))) notes_out.twice k out).holds
      | inr in_ ↦ twice_in k (match_some ins.twice _ (IsFirst (IsTwice graph In (HasPad outs))) notes_in.twice k in_).holds
    ];
    none_before = λ other less twice. elim twice [
      | inl out ↦ not_lower_than (IsTwice graph Out (λ name. Unit {0})) outs.twice notes_out.twice k is.1 other less out
      | inr in_ ↦ not_lower_than (IsTwice graph In (HasPad outs)) ins.twice notes_in.twice k is.2 other less (twice_along graph In (IsOnOutput graph) (HasPad outs) on_output_has other in_)
    ];
  }

  pub never_twice : outs.twice ≡ None → ins.twice ≡ None → Never (HasLabelTwice graph)
  never_twice no_out no_in filter twice = elim twice [
    | inl out ↦ match_none outs.twice (Never (IsTwice graph Out (λ name. Unit {0}))) (IsFirst (IsTwice graph Out (λ name. Unit {0}))) notes_out.twice no_out filter out
    | inr in_ ↦ match_none ins.twice (Never (IsTwice graph In (HasPad outs))) (IsFirst (IsTwice graph In (HasPad outs))) notes_in.twice no_in filter
        (twice_along graph In (IsOnOutput graph) (HasPad outs) on_output_has filter in_)
  ]

  -- the table of inputs has their labels that are on output pads
  pub notes_on_output : Notes graph In (IsOnOutput graph) ins
  notes_on_output = record {
    pad = λ name place has. (let is = notes_in.pad name place has in (is.0, has_on_output name is.1));
    all = λ filter pad name labelled on. notes_in.all filter pad name labelled (on_output_has name on);
    twice = along ins.twice notes_in.twice;
  } where
    along : (twice : Option ℕ) → MatchOption twice (Never (IsTwice graph In (HasPad outs))) (IsFirst (IsTwice graph In (HasPad outs)))
        → MatchOption twice (Never (IsTwice graph In (IsOnOutput graph))) (IsFirst (IsTwice graph In (IsOnOutput graph)))
    along None never = λ filter is. never filter (twice_along graph In (IsOnOutput graph) (HasPad outs) on_output_has filter is)
    along (Some k) none_before =
        first_along (λ f is. twice_along graph In (HasPad outs) (IsOnOutput graph) has_on_output f is) (λ f is. twice_along graph In (IsOnOutput graph) (HasPad outs) on_output_has f is) none_before
