-- Files that open input pads take in turn.
use Rattle.std.proofs.Common.{◌≡◌, ◌<◌, ◌≤◌, ◌+◌, ◌++◌, ◌↔◌, ◌⊎◌, ℕ, List, [], ◌∷◌, Option, Some, None, Bool, true, false, length, take, drop, get_or, set, refl, sym, ◌∙◌, ap, subst, inl, inr, arith, append_assoc}
use Rattle.std.specs.Prelude.{MatchOption, IfSome}
use Rattle.std.specs.List.{slice_get}
use Rattle.std.proofs.lemmas.Bool.{cases_Bool, cases_eq}
use Rattle.std.proofs.lemmas.List.{get_or-set_same, get_or-set_other, length-set, take_more, take_all, map_push, map-append, append-nil, take-append-drop}
use Rattle.std.proofs.lemmas.List.Elements.{Contains-get_or, Contains-push, Contains-push_cases, Contains-append_left}
use Rattle.std.proofs.lemmas.Option.{slice_get_within}
use Rattle.av_base.specs.declared.formats.Media.{Media}
use Rattle.graph_plan.specs.declared.plan.Edge.{Edge}
use Rattle.graph_plan.specs.declared.plan.Source.{Source}
use Rattle.graph_plan.specs.declared.plan.Source.TheVariants as from
use Rattle.graph_plan.specs.declared.places.Place.{Place}
use Rattle.graph_plan.specs.declared.places.Side.TheVariants.{In}
use Rattle.graph_plan.specs.declared.origins.Origin.{Origin}
use Rattle.graph_plan.specs.declared.origins.Origin.TheVariants.{Pad, File, Open}
use Rattle.graph_plan.specs.declared.origins.Inlet.{Inlet}
use Rattle.av_base.specs.First.{IsFirst}
use Rattle.av_base.proofs.Lists.{contained}
use Rattle.av_base.proofs.Arithmetic.{first_along}
use Rattle.graph_plan.specs.Graphs.{Graph, kinds, kind, pads_on, NamesFile, IsNamed}
use Rattle.graph_plan.specs.Links.{IsTaken, IsLeft, IsOrigin, link_to, AreLinks}
use Rattle.graph_plan.specs.Refusals.{FindsNone}
use Rattle.graph_plan.specs.Joining.{IsOriginOf, takers, AreInlets, IsNamedBy, AreTaken, FitsTogether, WhenMarked, FindsNoFile}
use Rattle.graph_plan.proofs.GraphLemmas.{places_item, labelled_is_there, joined_not_named, named_not_open, one_named}
use Rattle.graph_plan.proofs.ScanLemmas.{taker_at}
use Rattle.graph_plan.proofs.JoinLemmas.{inlet_of, inlet_is}

-- ---- marks

pub marked_same : (taken : List Bool) (file : ℕ) → file < length taken → get_or (set taken file true) file false ≡ true
marked_same taken file low = get_or-set_same taken file true false low

-- what was marked stays so
pub marked_stays : (taken : List Bool) (file other : ℕ) → file < length taken → get_or taken other false ≡ true → get_or (set taken file true) other false ≡ true
marked_stays taken file other low is = elim (cases_eq other file) [
  | inl same ↦ rw same (marked_same taken file low)
  | inr apart ↦ get_or-set_other taken file other true false apart ∙ is
]

-- what is marked was marked, or is the file
pub marked_why : (taken : List Bool) (file other : ℕ) → get_or (set taken file true) other false ≡ true → (get_or taken other false ≡ true) ⊎ (other ≡ file)
marked_why taken file other is = elim (cases_eq other file) [
  | inl same ↦ inr same
  | inr apart ↦ inl (sym (get_or-set_other taken file other true false apart) ∙ is)
]

-- ---- files that labels name

-- one more inlet
pub named_more : (inlets : List Inlet) (index : ℕ) (d : Inlet) (file : Option ℕ) (old new : List Bool) → index < length inlets
    → MatchOption file ((f : ℕ) (said : Option Media) → (get_or inlets index d).origin ≡ File f said → ⊥) (λ f. (said : Option Media) × ((get_or inlets index d).origin ≡ File f said))
    → WhenMarked file old new → IfSome file (λ f. f < length old) → ((f : ℕ) → (get_or old f false ≡ true) ↔ IsNamedBy (take index inlets) f)
    → (f : ℕ) → (get_or new f false ≡ true) ↔ IsNamedBy (take (index + 1) inlets) f
named_more inlets index d None old new within none same low are f = rw (take_more inlets index d within, same) (
  λ is. let by = (are f).0 is in (by.0, Contains-append_left (take index inlets) (get_or inlets index d ∷ []) by.0 by.1, by.2),
  λ by. elim (Contains-push_cases (take index inlets) (get_or inlets index d) by.0 by.1) [
    | inl before ↦ (are f).1 (by.0, before, by.2)
    | inr last ↦ absurd (let P : Inlet → Type 0 = λ i. i.origin ≡ File f by.2.0 in none f by.2.0 (subst P (sym last) by.2.1))
  ],
)
named_more inlets index d (Some file) old new within names marked low are f = rw (take_more inlets index d within, marked) (there, back) where
  inlet : Inlet
  inlet = get_or inlets index d

  there : get_or (set old file true) f false ≡ true → IsNamedBy (take index inlets ++ inlet ∷ []) f
  there is = elim (marked_why old file f is) [
    | inl before ↦ (let by = (are f).0 before in (by.0, Contains-append_left (take index inlets) (inlet ∷ []) by.0 by.1, by.2))
    | inr same ↦ (
        let P : ℕ → Type 0 = λ k. inlet.origin ≡ File k names.0 in
        (inlet, Contains-push (take index inlets) inlet, (names.0, subst P (sym same) names.1))
        )
  ]

  back : IsNamedBy (take index inlets ++ inlet ∷ []) f → get_or (set old file true) f false ≡ true
  back by = elim (Contains-push_cases (take index inlets) inlet by.0 by.1) [
    | inl before ↦ marked_stays old file f low ((are f).1 (by.0, before, by.2))
    | inr last ↦ (
        let P : Inlet → Type 0 = λ i. i.origin ≡ File f by.2.0 in
        let origins : File file names.0 ≡ File f by.2.0 = sym names.1 ∙ subst P (sym last) by.2.1 in
        let same : file ≡ f = cc in
        rw (sym same) (marked_same old file low)
        )
  ]

module _ (graph : Graph) (fit : FitsTogether graph) (inlets : List Inlet) (are : AreInlets graph inlets) where
  pub by_named : (file : ℕ) → IsNamedBy inlets file → IsNamed graph file
  by_named file by =
      let P : Origin → Type 0 = λ o. IsOriginOf graph by.0.taker o in
      (by.0.taker, by.2.0, subst P by.2.1 (inlet_is graph fit inlets are by.0 by.1))

  -- if a label names a file, that is the input pad's origin
  file_origin : (taker : Place) (file : ℕ) (said : Option Media) (origin : Origin) → IsOriginOf graph taker origin → NamesFile graph taker file said → (other : Option Media) × (origin ≡ File file other)
  file_origin taker file said (Pad giver) is names = absurd (joined_not_named graph giver taker file said is names)
  file_origin taker file said (File other told) is names =
      let same = one_named graph taker other file told said is names in
      (told, ap (λ (f : ℕ). File f told) same.0)
  file_origin taker file said Open is names = absurd (named_not_open graph taker file said names is)

  named_by : (file : ℕ) → IsNamed graph file → IsNamedBy inlets file
  named_by file is =
      let names = is.2 in
      let there = labelled_is_there graph fit.counted.small.each fit.counted.pads In is.0.filter is.0.pad names.name names.is_label in
      let found = inlet_of graph fit inlets are is.0 there.0 there.1 in
      let P : Place → Type 0 = λ p. NamesFile graph p file is.1 in
      (found.0, found.1, file_origin found.0.taker file is.1 found.0.origin found.3 (subst P (sym found.2) names))

  pub named_low : (file : ℕ) → IsNamedBy inlets file → file < length graph.files
  named_low file by = let is = by_named file by in is.2.is_file

  -- before any link, the files are taken that labels name
  pub taken_none : (taken : List Bool) → length taken ≡ length graph.files → ((file : ℕ) → (get_or taken file false ≡ true) ↔ IsNamedBy inlets file) → AreTaken graph [] taken
  taken_none taken each marked = record {
    each = each;
    marked = λ file is. inl (by_named file ((marked file).0 is));
    named = λ file is. (marked file).1 (named_by file is);
    taken_is_marked = λ file low is. absurd (let k : is.1.0 < 0 = is.1.1 in omega arith);
  }

-- ---- files that links take

module _ (graph : Graph) where
  taken_old : (links : List Edge) (link : Edge) (file : ℕ) → IsTaken links file → IsTaken (links ++ link ∷ []) file
  taken_old links link file is = (is.0, Contains-append_left links (link ∷ []) is.0 is.1, is.2)

  taken_cases : (links : List Edge) (link : Edge) (file : ℕ) → IsTaken (links ++ link ∷ []) file → IsTaken links file ⊎ (link.from ≡ from.Input file)
  taken_cases links link file is = elim (Contains-push_cases links link is.0 is.1) [
    | inl old ↦ inl (is.0, old, is.2)
    | inr last ↦ inr (let P : Edge → Type 0 = λ l. l.from ≡ from.Input file in subst P (sym last) is.2)
  ]

  -- one more link
  pub taken_more : (links : List Edge) (link : Edge) (input : Option ℕ) (old new : List Bool) → AreTaken graph links old
      → MatchOption input ((i : ℕ) → link.from ≡ from.Input i → ⊥) (λ i. link.from ≡ from.Input i) → WhenMarked input old new → IfSome input (λ i. i < length old) → AreTaken graph (links ++ link ∷ []) new
  taken_more links link None old new is none same low = rw same (record {
    each = is.each;
    marked = λ file mark. elim (is.marked file mark) [ inl named ↦ inl named | inr taken ↦ inr (taken_old links link file taken) ];
    named = is.named;
    taken_is_marked = λ file within taken. elim (taken_cases links link file taken) [ inl before ↦ is.taken_is_marked file within before | inr begins ↦ absurd (none file begins) ];
  })
  taken_more links link (Some input) old new is begins marked low = rw marked (record {
    each = length-set old input true ∙ is.each;
    marked = λ file mark. elim (marked_why old input file mark) [
      | inl before ↦ elim (is.marked file before) [ inl named ↦ inl named | inr taken ↦ inr (taken_old links link file taken) ]
      | inr same ↦ inr (link, Contains-push links link, begins ∙ ap (λ (k : ℕ). from.Input k) (sym same))
    ];
    named = λ file named. marked_stays old input file low (is.named file named);
    taken_is_marked = λ file within taken. elim (taken_cases links link file taken) [
      | inl before ↦ marked_stays old input file low (is.taken_is_marked file within before)
      | inr here ↦ (
          let origins : from.Input input ≡ from.Input file = sym begins ∙ here in
          let same : input ≡ file = cc in
          rw (sym same) (marked_same old input low)
          )
    ];
  })

  -- ---- files that are left

  abbrev pub Unmarked : List Bool → Media → ℕ → Type 0
  Unmarked taken wanted file = (slice_get graph.files file ≡ Some wanted) × (get_or taken file false ≡ false)

  pub unmarked_left : (before : List Edge) (taken : List Bool) (wanted : Media) → AreTaken graph before taken → (file : ℕ) → Unmarked taken wanted file → IsLeft graph before wanted file
  unmarked_left before taken wanted is file bare = record {
    is_file = bare.0;
    unnamed = λ named. let mark = is.named file named in let none = bare.1 in cc;
    untaken = λ takes. let mark = is.taken_is_marked file (slice_get_within graph.files file wanted bare.0) takes in let none = bare.1 in cc;
  }

  pub left_unmarked : (before : List Edge) (taken : List Bool) (wanted : Media) → AreTaken graph before taken → (file : ℕ) → IsLeft graph before wanted file → Unmarked taken wanted file
  left_unmarked before taken wanted is file left = (
    left.is_file,
    elim (cases_Bool (get_or taken file false)) [
      | inl mark ↦ absurd (elim (is.marked file mark) [ inl named ↦ left.unnamed named | inr takes ↦ left.untaken takes ])
      | inr bare ↦ bare
    ],
  )

  pub lowest_left : (before : List Edge) (taken : List Bool) (wanted : Media) → AreTaken graph before taken → (file : ℕ) → IsFirst (Unmarked taken wanted) file → IsFirst (IsLeft graph before wanted) file
  lowest_left before taken wanted is file none_before = first_along (unmarked_left before taken wanted is) (left_unmarked before taken wanted is) none_before

-- ---- marks within the files

pub named_within : (inlets : List Inlet) (index : ℕ) (d : Inlet) (file : Option ℕ) (count : ℕ) → index < length inlets → ((f : ℕ) → IsNamedBy inlets f → f < count)
    → MatchOption file ((f : ℕ) (said : Option Media) → (get_or inlets index d).origin ≡ File f said → ⊥) (λ f. (said : Option Media) × ((get_or inlets index d).origin ≡ File f said)) → IfSome file (λ f. f < count)
named_within inlets index d None count within low names = tt
named_within inlets index d (Some file) count within low names = low file (get_or inlets index d, Contains-get_or inlets index d within, names)

pub input_within : (graph : Graph) (before : List Edge) (taker : Place) (origin : Source) (input : Option ℕ) → IsOrigin graph before taker origin
    → MatchOption input ((i : ℕ) → origin ≡ from.Input i → ⊥) (λ i. origin ≡ from.Input i) → IfSome input (λ i. i < length graph.files)
input_within graph before taker origin None is begins = tt
input_within graph before taker origin (Some input) is begins = elim is [
  | inl pad ↦ absurd (let one = pad.1 in cc)
  | inr file ↦ elim file [
    | inl named ↦ (let one = named.2 in let same : named.0 ≡ input = cc in let low = named.3.is_file in omega arith)
    | inr left ↦ (let one = left.2 in let same : left.1 ≡ input = cc in let low = slice_get_within graph.files left.1 left.0 left.5.holds.is_file in omega arith)
  ]
]

-- ---- links so far

-- whatever comes after the first links completes them, and the files that they take are marked
pub record TakenSoFar (graph : Graph) (inlets : List Inlet) (links : List Edge) (marks : List Bool) : Type 0 where
  pub comes : (rest : List Place) (more : List Edge) → AreLinks graph links rest more → AreLinks graph [] (takers inlets ++ rest) (links ++ more)
  pub fails : (rest : List Place) (filter pad : ℕ) → FindsNone graph links rest filter pad → FindsNone graph [] (takers inlets ++ rest) filter pad
  pub taken : AreTaken graph links marks

pub so_far_none : (graph : Graph) (taken : List Bool) → AreTaken graph [] taken → TakenSoFar graph [] [] taken
so_far_none graph taken is = record { comes = λ rest more h. h; fails = λ rest filter pad h. h; taken = is }

pub so_far_more : (graph : Graph) (inlets : List Inlet) (inlet : Inlet) (links : List Edge) (origin : Source) (input : Option ℕ) (old new : List Bool) → TakenSoFar graph inlets links old
    → IsOrigin graph links inlet.taker origin → MatchOption input ((i : ℕ) → origin ≡ from.Input i → ⊥) (λ i. origin ≡ from.Input i) → WhenMarked input old new
    → TakenSoFar graph (inlets ++ inlet ∷ []) (links ++ link_to inlet.taker origin ∷ []) new
so_far_more graph inlets inlet links origin input old new is comes begins marked =
    let link = link_to inlet.taker origin in
    let places = map_push (λ (i : Inlet). i.taker) inlets inlet in record {
      comes = λ rest more h. (
          let P : List Edge → Type 0 = λ ls. AreLinks graph [] (takers (inlets ++ inlet ∷ []) ++ rest) ls in
          let all = is.comes (inlet.taker ∷ rest) (link ∷ more) ((origin, refl, comes), h) in
          subst P (sym (append_assoc links (link ∷ []) more)) (rw (places, append_assoc) all)
          );
      fails = λ rest filter pad h. rw (places, append_assoc) (is.fails (inlet.taker ∷ rest) filter pad (inr (origin, comes, h)));
      taken = taken_more graph links link input old new is.taken begins marked (let within = input_within graph links inlet.taker origin input comes begins in let each = is.taken.each in rw each within);
    }

-- ---- among all input pads

pub kind_there : (graph : Graph) (inlets : List Inlet) (index : ℕ) (d : Inlet) → AreInlets graph inlets → index < length inlets
    → (wanted : Media) × (kind graph In (get_or inlets index d).taker.filter (get_or inlets index d).taker.pad ≡ Some wanted)
kind_there graph inlets index d are within =
    let taker = (get_or inlets index d).taker in
    places_item (kinds In) graph.pads taker (contained (pads_on graph In) index taker (taker_at graph inlets index d are within))

-- an input pad that finds no file is the first that finds none
pub fails_at : (graph : Graph) (inlets : List Inlet) (index : ℕ) (d : Inlet) (links : List Edge) (marks : List Bool) → AreInlets graph inlets → index < length inlets
    → TakenSoFar graph (take index inlets) links marks → FindsNoFile graph links (get_or inlets index d).taker
    → FindsNone graph [] (pads_on graph In) (get_or inlets index d).taker.filter (get_or inlets index d).taker.pad
fails_at graph inlets index d links marks are within is none =
    let inlet = get_or inlets index d in
    let taker = inlet.taker in
    let rest = drop (index + 1) inlets in
    let whole : take index inlets ++ inlet ∷ rest ≡ inlets =
    sym (append_assoc (take index inlets) (inlet ∷ []) rest) ∙ (ap (λ (xs : List Inlet). xs ++ rest) (sym (take_more inlets index d within)) ∙ take-append-drop (index + 1) inlets) in
    let places : takers (take index inlets) ++ taker ∷ takers rest ≡ pads_on graph In =
    sym (map-append (λ (i : Inlet). i.taker) (take index inlets) (inlet ∷ rest)) ∙ (ap takers whole ∙ are.are) in
    let P : List Place → Type 0 = λ ps. FindsNone graph [] ps taker.filter taker.pad in
    subst P places (is.fails (taker ∷ takers rest) taker.filter taker.pad (inl (refl, refl, none.0, none.1)))

-- once all input pads have their links
pub links_all : (graph : Graph) (inlets : List Inlet) (index : ℕ) (links : List Edge) (marks : List Bool) → AreInlets graph inlets → length inlets ≤ index
    → TakenSoFar graph (take index inlets) links marks → AreLinks graph [] (pads_on graph In) links
links_all graph inlets index links marks are past is =
    let all = is.comes [] [] tt in
    let places : takers (take index inlets) ++ [] ≡ pads_on graph In = append-nil (takers (take index inlets)) ∙ (ap takers (take_all index inlets past) ∙ are.are) in
    let P : List Place → Type 0 = λ ps. AreLinks graph [] ps (links ++ []) in
    let Q : List Edge → Type 0 = λ ls. AreLinks graph [] (pads_on graph In) ls in
    subst Q (append-nil links) (subst P places all)
