-- Wishes and relations by link.
use Rattle.std.proofs.Common.{◌≡◌, ◌<◌, ◌+◌, ◌++◌, ◌⊎◌, ◌↔◌, ℕ, suc, zero, List, [], ◌∷◌, Option, Some, None, length, get_or, map, set, replicate, refl, sym, ◌∙◌, ap, subst, arith, inl, inr}
use Rattle.std.specs.List.{slice_get, Contains}
use Rattle.std.proofs.lemmas.Bool.{cases_eq, cases_lt}
use Rattle.std.proofs.lemmas.List.{length-set, length-replicate, length_push, get_or-set_same, get_or-set_other, get_or-replicate, get_or_past}
use Rattle.std.proofs.lemmas.List.Elements.{Contains-push, Contains-push_cases, Contains-append_left}
use Rattle.std.proofs.lemmas.Option.{same_Some, none-some, slice_get_within, slice_get-map}
use Rattle.std.specs.Option.{option_map}
use Rattle.av_base.specs.declared.formats.Format.{Format}
use Rattle.av_base.specs.declared.sets.FormatSet.{FormatSet}
use Rattle.av_base.specs.FormatSets.{Has}
use Rattle.graph_formats.specs.declared.request.Relation.{Relation}
use Rattle.graph_formats.specs.declared.request.Relation.TheVariants.{Same}
use Rattle.graph_formats.specs.declared.request.Wish.{Wish}
use Rattle.graph_formats.specs.declared.ties.Tie.{Tie}
use Rattle.graph_formats.specs.declared.ties.Ties.{Ties}
use Rattle.graph_formats.specs.Assignments.{first_of, second_of, IsWished, AreWishesBelow}
use Rattle.graph_formats.specs.Demands.{AreNarrowed, Names, IsListed, Here, After, head_of, HasTie, AreLists, AreTied, IsTied, AreBothTied, Asked, AreDemands, wishes_from, asked_of}
use Rattle.graph_formats.specs.declared.demands.Demands.{Demands}
use Rattle.av_base.proofs.Lists.{get_set_same, get_set_other, append_get_left, pushed_last, pushed_at, get_replicate, none_contained, contained_cases, get_within, contained, place_of}

-- ---- wishes

-- what a list of wishes is read as past its end
abbrev pub no_wish : Wish
no_wish = record { link = 0; set = record { bits = 0 } }

pub narrowed_none : (links : ℕ) (sets : List FormatSet) (every : FormatSet) → sets ≡ replicate links every → ((f : Format) → Has every f) → AreNarrowed links [] sets
narrowed_none links sets every e all = record {
  each = ap length e ∙ length-replicate links every;
  exact = λ link set f at.
      let same : set ≡ every = get_replicate links every link set (ap (λ (s : List FormatSet). slice_get s link) (sym e) ∙ at) in
      let P : FormatSet → Type 0 = λ s. Has s f in
      (λ has wished here. absurd (none_contained _ here), λ wished. subst P (sym same) (all f));
}

-- one more wish
wished_more : (wishes : List Wish) (wish : Wish) (f : Format) → IsWished (wishes ++ wish ∷ []) wish.link f ↔ (IsWished wishes wish.link f × Has wish.set f)
wished_more wishes wish f = (
  λ all. (λ set here. all set (Contains-append_left wishes (wish ∷ []) _ here), all wish.set (Contains-push wishes wish)),
  λ both set here. elim (Contains-push_cases wishes wish _ here) [
    | inl old ↦ both.0 set old
    | inr same ↦ (let P : Wish → Type 0 = λ w. Has w.set f in subst P same both.1)
  ],
)

-- a wish for another link
wished_other : (wishes : List Wish) (wish : Wish) (link : ℕ) (f : Format) → (link ≡ wish.link → ⊥) → IsWished (wishes ++ wish ∷ []) link f ↔ IsWished wishes link f
wished_other wishes wish link f other = (
  λ all set here. all set (Contains-append_left wishes (wish ∷ []) _ here),
  λ old set here. elim (Contains-push_cases wishes wish _ here) [
    | inl before ↦ old set before
    | inr same ↦ absurd (other (sym (ap (λ (w : Wish). w.link) same)))
  ],
)

pub narrowed_more : (links : ℕ) (wishes : List Wish) (wish : Wish) (sets : List FormatSet) (old new : FormatSet) → AreNarrowed links wishes sets → slice_get sets wish.link ≡ Some old
    → ((f : Format) → Has new f ↔ (Has old f × Has wish.set f)) → AreNarrowed links (wishes ++ wish ∷ []) (set sets wish.link new)
narrowed_more links wishes wish sets old new is at both = record {
  each = length-set sets wish.link new ∙ is.each;
  exact = λ link other f e. elim (cases_eq link wish.link) [
    | inl same ↦ (
        let P : ℕ → Type 0 = λ n. Has other f ↔ IsWished (wishes ++ wish ∷ []) n f in
        let is_new : other ≡ new = same_Some other new (sym e ∙ (ap (λ (n : ℕ). slice_get (set sets wish.link new) n) same ∙ get_set_same sets wish.link new (slice_get_within sets wish.link old at))) in
        let Q : FormatSet → Type 0 = λ s. Has s f ↔ IsWished (wishes ++ wish ∷ []) wish.link f in
        subst P (sym same) (subst Q (sym is_new) (here f))
        )
    | inr apart ↦ (
        let before = is.exact link other f (sym (get_set_other sets wish.link link new apart) ∙ e) in
        let more = wished_other wishes wish link f apart in
        (λ has. more.1 (before.0 has), λ wished. before.1 (more.0 wished))
        )
  ];
} where
  here : (f : Format) → Has new f ↔ IsWished (wishes ++ wish ∷ []) wish.link f
  here f =
      let before = is.exact wish.link old f at in
      let more = wished_more wishes wish f in (
        λ has. (let h = (both f).0 has in more.1 (before.0 h.0, h.1)),
        λ wished. (let h = more.0 wished in (both f).1 (before.1 h.0, h.1)),
      )

-- ---- lists of ties

-- what a list of relations is read as past its end
abbrev pub no_relation : Relation
no_relation = Same 0 0

pub listed_cases : (ties : List Tie) (begin : Option ℕ) (found : ℕ) → IsListed ties begin found
    → (place : ℕ) × (begin ≡ Some place) × ((found ≡ place) ⊎ ((tie : Tie) × (slice_get ties place ≡ Some tie) × IsListed ties tie.next found))
listed_cases ties _ _ (Here place) = (place, refl, inl refl)
listed_cases ties _ _ (After place found tie at rest) = (place, refl, inr (tie, at, rest))

-- a list stays as it is if ties are added
listed_stays : (ties more : List Tie) (begin : Option ℕ) (found : ℕ) → IsListed ties begin found → IsListed (ties ++ more) begin found
listed_stays ties more _ _ (Here place) = Here place
listed_stays ties more _ _ (After place found tie at rest) = After place found tie (append_get_left ties more place tie at) (listed_stays ties more tie.next found rest)

-- lists go on to lower places
abbrev pub Falls : List Tie → Type 0
Falls ties = (place next : ℕ) (tie : Tie) → slice_get ties place ≡ Some tie → tie.next ≡ Some next → next < place

listed_back : (ties : List Tie) (tie : Tie) → Falls ties → (begin : Option ℕ) (found : ℕ) → IsListed (ties ++ tie ∷ []) begin found
    → ((place : ℕ) → begin ≡ Some place → place < length ties) → IsListed ties begin found
listed_back ties last falls _ _ (Here place) low = Here place
listed_back ties last falls _ _ (After place found tie at rest) low = elim (pushed_at ties last place tie at) [
  | inl old ↦ After place found tie old (listed_back ties last falls tie.next found rest (λ next e. let less = falls place next tie old e in let within = low place refl in omega arith))
  | inr new ↦ absurd (let within = low place refl in let here = new.0 in omega arith)
]

-- a list has places of its ties
pub place_within : (ties : List Tie) (begin : Option ℕ) (found : ℕ) → IsListed ties begin found → ((place : ℕ) → begin ≡ Some place → place < length ties) → Falls ties → found < length ties
place_within ties _ _ (Here place) low falls = low place refl
place_within ties _ _ (After place found tie at rest) low falls =
    place_within ties tie.next found rest (λ next e. let less = falls place next tie at e in let within = low place refl in omega arith) falls

-- what isn't `Some` is `None`
pub only_none : {X : Type 0} (R : Option X → Type 0) → ((x : X) → R (Some x) → ⊥) → (y : Option X) → R y → y ≡ None
only_none R not_some None is = refl
only_none R not_some (Some x) is = absurd (not_some x is)

head_none : (links : ℕ) (all : Ties) (link place : ℕ) → all.heads.items ≡ replicate links None → head_of all link ≡ Some place → ⊥
head_none links all link place e at = elim (cases_lt link links) [
  | inl low ↦ (let none : head_of all link ≡ None = ap (λ (h : List (Option ℕ)). get_or h link None) e ∙ get_or-replicate links link None None low in none-some place (sym none ∙ at))
  | inr past ↦ (
      let none : head_of all link ≡ None = ap (λ (h : List (Option ℕ)). get_or h link None) e ∙ get_or_past (replicate links None) link None (let long = length-replicate {A = Option ℕ} links None in omega arith) in
      none-some place (sym none ∙ at)
      )
]

pub lists_none : (links : ℕ) (all : Ties) → all.heads.items ≡ replicate links None → all.ties.items ≡ [] → AreTied links [] all
lists_none links all heads ties = record {
  each = ap length heads ∙ length-replicate links None;
  listed = λ link relation has. absurd (none_contained relation has.0);
  only = λ link relation tie. absurd (let at = listed_cases all.ties.items (head_of all link) tie.place tie.listed in head_none links all link at.0 heads at.1);
  source = λ place tie at. absurd (none-some tie (ap (λ (t : List Tie). slice_get t place) (sym ties) ∙ at));
  begins = λ link place at. absurd (head_none links all link place heads at);
  falls = λ place next tie at e. absurd (none-some tie (ap (λ (t : List Tie). slice_get t place) (sym ties) ∙ at));
}

-- a relation put before those of a link
module _ (links : ℕ) (Has : ℕ → Relation → Type 0) (old new : Ties) (link : ℕ) (relation : Relation) (low : link < links) (is : AreLists links Has old) (put : IsTied old new link relation) where
  abbrev last : Tie
  last = record { relation = relation; next = head_of old link }

  head_same : head_of new link ≡ Some (length old.ties.items)
  head_same = ap (λ (h : List (Option ℕ)). get_or h link None) put.heads ∙ get_or-set_same old.heads.items link (Some (length old.ties.items)) None (let each = is.each in omega arith)

  head_other : (other : ℕ) → (other ≡ link → ⊥) → head_of new other ≡ head_of old other
  head_other other apart = ap (λ (h : List (Option ℕ)). get_or h other None) put.heads ∙ get_or-set_other old.heads.items link other (Some (length old.ties.items)) None apart

  stays : (begin : Option ℕ) (found : ℕ) → IsListed old.ties.items begin found → IsListed new.ties.items begin found
  stays begin found h = let P : List Tie → Type 0 = λ t. IsListed t begin found in subst P (sym put.ties) (listed_stays old.ties.items (last ∷ []) begin found h)

  back : (begin : Option ℕ) (found : ℕ) → IsListed new.ties.items begin found → ((place : ℕ) → begin ≡ Some place → place < length old.ties.items) → IsListed old.ties.items begin found
  back begin found h below = let P : List Tie → Type 0 = λ t. IsListed t begin found in listed_back old.ties.items last is.falls begin found (subst P put.ties h) below

  at_old : (place : ℕ) (tie : Tie) → slice_get old.ties.items place ≡ Some tie → slice_get new.ties.items place ≡ Some tie
  at_old place tie at = ap (λ (t : List Tie). slice_get t place) put.ties ∙ append_get_left old.ties.items (last ∷ []) place tie at

  at_last : slice_get new.ties.items (length old.ties.items) ≡ Some last
  at_last = ap (λ (t : List Tie). slice_get t (length old.ties.items)) put.ties ∙ pushed_last old.ties.items last

  at_new : (place : ℕ) (tie : Tie) → slice_get new.ties.items place ≡ Some tie → (slice_get old.ties.items place ≡ Some tie) ⊎ ((place ≡ length old.ties.items) × (tie ≡ last))
  at_new place tie at = pushed_at old.ties.items last place tie (ap (λ (t : List Tie). slice_get t place) (sym put.ties) ∙ at)

  -- what the list of a link had it has
  kept : (other : ℕ) (r : Relation) → HasTie old other r → HasTie new other r
  kept other r tie = record {
    place = tie.place;
    listed = elim (cases_eq other link) [
      | inl same ↦ (
          let P : ℕ → Type 0 = λ n. IsListed old.ties.items (head_of old n) tie.place in
          let Q : ℕ → Type 0 = λ n. IsListed new.ties.items (head_of new n) tie.place in
          let R : Option ℕ → Type 0 = λ h. IsListed new.ties.items h tie.place in
          let rest : IsListed new.ties.items last.next tie.place = stays (head_of old link) tie.place (subst P same tie.listed) in
          subst Q (sym same) (subst R (sym head_same) (After (length old.ties.items) tie.place last at_last rest))
          )
      | inr apart ↦ (let R : Option ℕ → Type 0 = λ h. IsListed new.ties.items h tie.place in subst R (sym (head_other other apart)) (stays (head_of old other) tie.place tie.listed))
    ];
    tie = tie.tie;
    is_tie = at_old tie.place tie.tie tie.is_tie;
    is_relation = tie.is_relation;
  }

  put_there : HasTie new link relation
  put_there = record {
    place = length old.ties.items;
    listed = (let R : Option ℕ → Type 0 = λ h. IsListed new.ties.items h (length old.ties.items) in subst R (sym head_same) (Here (length old.ties.items)));
    tie = last;
    is_tie = at_last;
    is_relation = refl;
  }

  -- what comes after it was in the list of a link
  had : (here other : ℕ) (r : Relation) (tie : HasTie new here r) → IsListed new.ties.items (head_of old other) tie.place → HasTie old other r
  had here other r tie listed = record {
    place = tie.place;
    listed = before;
    tie = tie.tie;
    is_tie = elim (at_new tie.place tie.tie tie.is_tie) [
      | inl old ↦ old
      | inr new ↦ absurd (let within = place_within old.ties.items (head_of old other) tie.place before (is.begins other) is.falls in let there = new.0 in omega arith)
    ];
    is_relation = tie.is_relation;
  } where
    before : IsListed old.ties.items (head_of old other) tie.place
    before = back (head_of old other) tie.place listed (is.begins other)

  -- the first of the list is what was put there
  first_tie : (place : ℕ) (tie : Tie) → Some (length old.ties.items) ≡ Some place → slice_get new.ties.items place ≡ Some tie → tie ≡ last
  first_tie place tie e at = same_Some tie last (sym at ∙ (ap (slice_get new.ties.items) (sym (same_Some (length old.ties.items) place e)) ∙ at_last))

  only_there : (r : Relation) (here : ℕ) (tie : HasTie new here r) → IsListed new.ties.items (Some (length old.ties.items)) tie.place → HasTie old link r ⊎ (r ≡ relation)
  only_there r here tie listed =
      let cases = listed_cases new.ties.items (Some (length old.ties.items)) tie.place listed in
      elim cases.2 [
        | inl first ↦ (
            let at = ap (slice_get new.ties.items) (sym first) ∙ tie.is_tie in
            inr (sym tie.is_relation ∙ ap (λ (t : Tie). t.relation) (first_tie cases.0 tie.tie cases.1 at))
            )
        | inr later ↦ (
            let P : Tie → Type 0 = λ t. IsListed new.ties.items t.next tie.place in
            inl (had here link r tie (subst P (first_tie cases.0 later.0 cases.1 later.1) later.2))
            )
      ]

  pub lists_more : AreLists links (λ l r. Has l r ⊎ ((l ≡ link) × (r ≡ relation))) new
  lists_more = record {
    each = ap length put.heads ∙ (length-set old.heads.items link (Some (length old.ties.items)) ∙ is.each);
    listed = λ other r has. elim has [
      | inl before ↦ kept other r (is.listed other r before)
      | inr here ↦ (
          let P : ℕ → Type 0 = λ n. HasTie new n r in
          let Q : Relation → Type 0 = λ x. HasTie new link x in
          subst P (sym here.0) (subst Q (sym here.1) put_there)
          )
    ];
    only = λ other r tie. elim (cases_eq other link) [
      | inl same ↦ (
          let P : ℕ → Type 0 = λ n. IsListed new.ties.items (head_of new n) tie.place in
          let R : Option ℕ → Type 0 = λ h. IsListed new.ties.items h tie.place in
          let Q : ℕ → Type 0 = λ n. Has n r in
          elim (only_there r other tie (subst R head_same (subst P same tie.listed))) [
            | inl before ↦ inl (subst Q (sym same) (is.only link r before))
            | inr put ↦ inr (same, put)
          ]
          )
      | inr apart ↦ (
          let R : Option ℕ → Type 0 = λ h. IsListed new.ties.items h tie.place in
          inl (is.only other r (had other other r tie (subst R (head_other other apart) tie.listed)))
          )
    ];
    source = λ place tie at. elim (at_new place tie at) [
      | inl before ↦ (let from = is.source place tie before in (from.0, inl from.1))
      | inr here ↦ (link, inr (refl, ap (λ (t : Tie). t.relation) here.1))
    ];
    begins = λ other place at. elim (cases_eq other link) [
      | inl same ↦ (
          let here : length old.ties.items ≡ place = same_Some (length old.ties.items) place (sym head_same ∙ (ap (head_of new) (sym same) ∙ at)) in
          let long = longer in
          omega arith
          )
      | inr apart ↦ (let within = is.begins other place (sym (head_other other apart) ∙ at) in let long = longer in omega arith)
    ];
    falls = λ place next tie at e. elim (at_new place tie at) [
      | inl before ↦ is.falls place next tie before e
      | inr put ↦ (
          let within = is.begins link next (ap (λ (t : Tie). t.next) (sym put.1) ∙ e) in
          let here = put.0 in
          omega arith
          )
    ];
  } where
    longer : length new.ties.items ≡ length old.ties.items + 1
    longer = ap length put.ties ∙ length_push old.ties.items last

-- lists of the same relations
lists_along : (links : ℕ) (P Q : ℕ → Relation → Type 0) (all : Ties) → ((link : ℕ) (r : Relation) → P link r → Q link r) → ((link : ℕ) (r : Relation) → Q link r → P link r) → AreLists links P all → AreLists links Q all
lists_along links P Q all to from is = record {
  each = is.each;
  listed = λ link r has. is.listed link r (from link r has);
  only = λ link r tie. to link r (is.only link r tie);
  source = λ place tie at. (let from = is.source place tie at in (from.0, to from.0 tie.relation from.1));
  begins = is.begins;
  falls = is.falls;
}

abbrev Tied : List Relation → ℕ → Relation → Type 0
Tied relations link relation = Contains relations relation × Names relation link

-- one more relation in the lists of both of its links
pub tied_more : (links : ℕ) (relations : List Relation) (relation : Relation) (old new : Ties) → first_of relation < links → second_of relation < links
    → AreTied links relations old → AreBothTied old new relation → AreTied links (relations ++ relation ∷ []) new
tied_more links relations relation old new first second is both =
    let one = lists_more links (Tied relations) old both.0 (first_of relation) relation first is both.1 in
    let two = lists_more links (λ l r. Tied relations l r ⊎ ((l ≡ first_of relation) × (r ≡ relation))) both.0 new (second_of relation) relation second one both.2 in
    lists_along links (λ l r. (Tied relations l r ⊎ ((l ≡ first_of relation) × (r ≡ relation))) ⊎ ((l ≡ second_of relation) × (r ≡ relation))) (λ l r. Contains (relations ++ relation ∷ []) r × Names r l) new to from two where
      there : (r : Relation) → r ≡ relation → Contains (relations ++ relation ∷ []) r
      there r same = let P : Relation → Type 0 = λ x. Contains (relations ++ relation ∷ []) x in subst P (sym same) (Contains-push relations relation)

      to : (l : ℕ) (r : Relation) → (Tied relations l r ⊎ ((l ≡ first_of relation) × (r ≡ relation))) ⊎ ((l ≡ second_of relation) × (r ≡ relation)) → Contains (relations ++ relation ∷ []) r × Names r l
      to l r (inl (inl old)) = (Contains-append_left relations (relation ∷ []) r old.0, old.1)
      to l r (inl (inr put)) = (there r put.1, inl (ap first_of put.1 ∙ sym put.0))
      to l r (inr put) = (there r put.1, inr (ap second_of put.1 ∙ sym put.0))

      from : (l : ℕ) (r : Relation) → Contains (relations ++ relation ∷ []) r × Names r l → (Tied relations l r ⊎ ((l ≡ first_of relation) × (r ≡ relation))) ⊎ ((l ≡ second_of relation) × (r ≡ relation))
      from l r has = elim (Contains-push_cases relations relation r has.0) [
        | inl old ↦ inl (inl (old, has.1))
        | inr same ↦ elim has.1 [
          | inl first ↦ inl (inr (sym first ∙ ap first_of (sym same), sym same))
          | inr second ↦ inr (sym second ∙ ap second_of (sym same), sym same)
        ]
      ]

-- ---- what demands ask

wishes_at : (link : ℕ) (sets : List FormatSet) (other : ℕ) (set : FormatSet) → Contains (wishes_from link sets) (record { link = other; set = set }) → (k : ℕ) × (other ≡ link + k) × (slice_get sets k ≡ Some set)
wishes_at link [] other set here = absurd (none_contained _ here)
wishes_at link (first ∷ sets) other set here = elim (contained_cases _ _ _ here) [
  | inl same ↦ (0, (let e = ap (λ (w : Wish). w.link) same in omega arith), ap (λ (w : Wish). Some w.set) same)
  | inr rest ↦ (let at = wishes_at (suc link) sets other set rest in (suc at.0, (let e = at.1 in omega arith), at.2))
]

at_wishes : (link : ℕ) (sets : List FormatSet) (k : ℕ) (set : FormatSet) → slice_get sets k ≡ Some set → slice_get (wishes_from link sets) k ≡ Some (record { link = link + k; set = set })
at_wishes link [] k set at = absurd (none-some set at)
at_wishes link (first ∷ sets) zero set at =
    let here : link ≡ link + 0 = omega arith in
    ap (λ (n : ℕ). Some (record { link = n; set = first })) here ∙ ap (λ (x : FormatSet). Some (record { link = link + 0; set = x })) (same_Some first set at)
at_wishes link (first ∷ sets) (suc k) set at =
    let there : suc link + k ≡ link + suc k = omega arith in
    at_wishes (suc link) sets k set at ∙ ap (λ (n : ℕ). Some (record { link = n; set = set })) there

-- the wish for a link is that of its set
set_wished : (sets : List FormatSet) (link : ℕ) (set : FormatSet) (f : Format) → slice_get sets link ≡ Some set → Has set f ↔ IsWished (wishes_from 0 sets) link f
set_wished sets link set f at = (
  λ has other here. (
      let found = wishes_at 0 sets link other here in
      let place : found.0 ≡ link = (let e = found.1 in omega arith) in
      let same : set ≡ other = same_Some set other (sym at ∙ (ap (slice_get sets) (sym place) ∙ found.2)) in
      let P : FormatSet → Type 0 = λ s. Has s f in
      subst P same has
      ),
  λ wished. wished set (contained (wishes_from 0 sets) link _ (at_wishes 0 sets link set at ∙ ap (λ (n : ℕ). Some (record { link = n; set = set })) (let same : 0 + link ≡ link = omega arith in same))),
)

relation_kept : (links : ℕ) (relations : List Relation) (all : Ties) → AreTied links relations all → (relation : Relation) → Contains (map (λ (tie : Tie). tie.relation) all.ties.items) relation ↔ Contains relations relation
relation_kept links relations all tied relation = (
  λ here. (
      let at = place_of (map (λ (tie : Tie). tie.relation) all.ties.items) relation here in
      let tie = mapped all.ties.items at.0 relation at.2 in
      let from = tied.source at.0 tie.0 tie.1 in
      let P : Relation → Type 0 = λ r. Contains relations r in
      subst P tie.2 from.1.0
      ),
  λ here. (
      let tie = tied.listed (first_of relation) relation (here, inl refl) in
      contained (map (λ (t : Tie). t.relation) all.ties.items) tie.place relation
      (slice_get-map (λ (t : Tie). t.relation) all.ties.items tie.place ∙ ap (option_map (λ (t : Tie). t.relation)) tie.is_tie ∙ ap (λ (r : Relation). Some r) tie.is_relation)
      ),
) where
  mapped : (ties : List Tie) (k : ℕ) (r : Relation) → slice_get (map (λ (tie : Tie). tie.relation) ties) k ≡ Some r → (tie : Tie) × (slice_get ties k ≡ Some tie) × (tie.relation ≡ r)
  mapped [] k r e = absurd (none-some r e)
  mapped (tie ∷ ties) zero r e = (tie, refl, same_Some tie.relation r e)
  mapped (tie ∷ ties) (suc k) r e = mapped ties k r e

-- what demands ask is what they were made of
pub record AskSame (a b : Asked) : Type 0 where
  pub links : a.links ≡ b.links
  pub wished : (link : ℕ) (f : Format) → IsWished a.wishes link f ↔ IsWished b.wishes link f
  pub relations : (relation : Relation) → Contains a.relations relation ↔ Contains b.relations relation

pub asked_same : (asked : Asked) (demands : Demands) → AreWishesBelow asked.links asked.wishes → AreDemands asked demands → AskSame (asked_of demands) asked
unfolding asked_of
asked_same asked demands below are = record {
  links = are.sets.each;
  wished = λ link f. elim (cases_lt link (length demands.sets.items)) [
    | inl low ↦ (
        let at = get_within demands.sets.items link low in
        let kept = set_wished demands.sets.items link at.0 f at.1 in
        let given = are.sets.exact link at.0 f at.1 in
        (λ is. given.0 (kept.1 is), λ is. kept.0 (given.1 is))
        )
    | inr past ↦ (
      λ is set here. absurd (let low = below (record { link = link; set = set }) here in let each = are.sets.each in omega arith),
      λ is set here. absurd (let found = wishes_at 0 demands.sets.items link set here in let low = slice_get_within demands.sets.items found.0 set found.2 in let e = found.1 in omega arith),
    )
  ];
  relations = relation_kept asked.links asked.relations demands.ties are.ties;
}

pub asked_sound : (asked : Asked) (demands : Demands) → AreDemands asked demands → AreDemands (asked_of demands) demands
unfolding asked_of
asked_sound asked demands are = record {
  below = λ relation here. (let low = are.below relation ((relation_kept asked.links asked.relations demands.ties are.ties relation).0 here) in let each = are.sets.each in (omega arith, omega arith));
  sets = record { each = refl; exact = λ link set f at. set_wished demands.sets.items link set f at };
  ties = (
      let tied = lists_along asked.links (Tied asked.relations) (Tied (map (λ (tie : Tie). tie.relation) demands.ties.ties.items)) demands.ties
      (λ link relation has. ((relation_kept asked.links asked.relations demands.ties are.ties relation).1 has.0, has.1))
      (λ link relation has. ((relation_kept asked.links asked.relations demands.ties are.ties relation).0 has.0, has.1)) are.ties in
      let P : ℕ → Type 0 = λ n. AreTied n (map (λ (tie : Tie). tie.relation) demands.ties.ties.items) demands.ties in
      subst P (sym are.sets.each) tied
      );
}
