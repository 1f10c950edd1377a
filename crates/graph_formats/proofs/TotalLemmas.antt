-- A chosen assignment or a fault is there.
use Rattle.std.proofs.Common.{◌≡◌, ◌<◌, ◌≤◌, ◌+◌, ◌⊎◌, ◌↔◌, ℕ, suc, zero, List, [], ◌∷◌, Option, Some, None, length, get_or, refl, sym, ◌∙◌, ap, subst, arith, inl, inr}
use Rattle.std.specs.List.{slice_get, Contains}
use Rattle.std.proofs.lemmas.Bool.{cases_eq, cases_lt}
use Rattle.std.proofs.lemmas.Option.{same_Some, none-some, slice_get_within, slice_get-get_or}
use Rattle.av_base.specs.declared.formats.PixelFormat.TheVariants.{Gray}
use Rattle.av_base.specs.declared.formats.Format.{Format}
use Rattle.av_base.specs.declared.formats.Format.TheVariants.{Video}
use Rattle.av_base.specs.declared.sets.FormatSet.{FormatSet}
use Rattle.av_base.specs.FormatSets.{Has, place_of, Precedes}
use Rattle.av_base.proofs.FormatSetLemmas.{same_place}
use Rattle.graph_formats.specs.declared.request.Relation.{Relation}
use Rattle.graph_formats.specs.declared.request.Relation.TheVariants.{Same, WithAlpha}
use Rattle.graph_formats.specs.declared.request.Wish.{Wish}
use Rattle.graph_formats.specs.Assignments.{first_of, second_of, with_alpha_of, Relates, Meets, IsWished, AreBelow, IsAssignment, Joined, Itself, Named, Back, Through, IsRoot, FitsPart, HasEarlier, IsChosen, HasNone, IsFirstWithout}
use Rattle.av_base.proofs.Arithmetic.{first_or_none}
use Rattle.av_base.proofs.Lists.{none_contained, contained_cases, get_within}
use Rattle.graph_formats.proofs.SearchLemmas.{Known, known_along, known_both, known_one, known_three, known_less, known_if, known_not, known_below, known_each, first_format, some_listing}
use Rattle.graph_formats.proofs.LawLemmas.{fits_joined}
use Rattle.graph_formats.proofs.WalkLemmas.{relates_forth, relates_back}

-- ---- parts

contains_more : {X : Type 0} (y : X) (xs : List X) (x : X) → Contains xs x → Contains (y ∷ xs) x
contains_more y xs x here = (suc here.0, (let low = here.1 in omega arith), here.2)

joined_none : (a b : ℕ) → Joined [] a b → a ≡ b
joined_none _ _ (Itself a) = refl
joined_none _ _ (Named relation here) = absurd (none_contained relation here)
joined_none _ _ (Back a b joined) = sym (joined_none a b joined)
joined_none _ _ (Through a b c one two) = joined_none a b one ∙ joined_none b c two

joined_more : (r : Relation) (relations : List Relation) (a b : ℕ) → Joined relations a b → Joined (r ∷ relations) a b
joined_more r relations _ _ (Itself a) = Itself a
joined_more r relations _ _ (Named relation here) = Named relation (contains_more r relations relation here)
joined_more r relations _ _ (Back a b joined) = Back a b (joined_more r relations a b joined)
joined_more r relations _ _ (Through a b c one two) = Through a b c (joined_more r relations a b one) (joined_more r relations b c two)

-- the first relation of a list isn't needed, or it is passed once
abbrev Bridged : Relation → List Relation → ℕ → ℕ → Type 0
Bridged r relations a b = Joined relations a b ⊎ ((Joined relations a (first_of r) × Joined relations (second_of r) b) ⊎ (Joined relations a (second_of r) × Joined relations (first_of r) b))

bridged_joined : (r : Relation) (relations : List Relation) (a b : ℕ) → Bridged r relations a b → Joined (r ∷ relations) a b
bridged_joined r relations a b (inl joined) = joined_more r relations a b joined
bridged_joined r relations a b (inr (inl both)) =
    let bridge = Named r (0, omega arith, refl) in
    Through a (first_of r) b (joined_more r relations a (first_of r) both.0) (Through (first_of r) (second_of r) b bridge (joined_more r relations (second_of r) b both.1))
bridged_joined r relations a b (inr (inr both)) =
    let bridge = Back (first_of r) (second_of r) (Named r (0, omega arith, refl)) in
    Through a (second_of r) b (joined_more r relations a (second_of r) both.0) (Through (second_of r) (first_of r) b bridge (joined_more r relations (first_of r) b both.1))

bridged_back : (r : Relation) (relations : List Relation) (a b : ℕ) → Bridged r relations a b → Bridged r relations b a
bridged_back r relations a b (inl joined) = inl (Back a b joined)
bridged_back r relations a b (inr (inl both)) = inr (inr (Back (second_of r) b both.1, Back a (first_of r) both.0))
bridged_back r relations a b (inr (inr both)) = inr (inl (Back (first_of r) b both.1, Back a (second_of r) both.0))

bridged_on : (r : Relation) (relations : List Relation) (a b c : ℕ) → Bridged r relations a b → Bridged r relations b c → Bridged r relations a c
bridged_on r relations a b c (inl x) (inl y) = inl (Through a b c x y)
bridged_on r relations a b c (inl x) (inr (inl y)) = inr (inl (Through a b (first_of r) x y.0, y.1))
bridged_on r relations a b c (inl x) (inr (inr y)) = inr (inr (Through a b (second_of r) x y.0, y.1))
bridged_on r relations a b c (inr (inl x)) (inl y) = inr (inl (x.0, Through (second_of r) b c x.1 y))
bridged_on r relations a b c (inr (inl x)) (inr (inl y)) = inr (inl (x.0, y.1))
bridged_on r relations a b c (inr (inl x)) (inr (inr y)) = inl (Through a (first_of r) c x.0 y.1)
bridged_on r relations a b c (inr (inr x)) (inl y) = inr (inr (x.0, Through (first_of r) b c x.1 y))
bridged_on r relations a b c (inr (inr x)) (inr (inl y)) = inl (Through a (second_of r) c x.0 y.1)
bridged_on r relations a b c (inr (inr x)) (inr (inr y)) = inr (inr (x.0, y.1))

joined_bridged : (r : Relation) (relations : List Relation) (a b : ℕ) → Joined (r ∷ relations) a b → Bridged r relations a b
joined_bridged r relations _ _ (Itself a) = inl (Itself a)
joined_bridged r relations _ _ (Named relation here) = elim (contained_cases r relations relation here) [
  | inl same ↦ inr (inl (
    subst (λ (x : Relation). Joined relations (first_of x) (first_of r)) same (Itself (first_of r)),
    subst (λ (x : Relation). Joined relations (second_of r) (second_of x)) same (Itself (second_of r)),
  ))
  | inr later ↦ inl (Named relation later)
]
joined_bridged r relations _ _ (Back a b joined) = bridged_back r relations a b (joined_bridged r relations a b joined)
joined_bridged r relations _ _ (Through a b c one two) = bridged_on r relations a b c (joined_bridged r relations a b one) (joined_bridged r relations b c two)

pub known_joined : (relations : List Relation) (a b : ℕ) → Known (Joined relations a b)
known_joined [] a b = elim (cases_eq a b) [
  | inl same ↦ inl (subst (λ (n : ℕ). Joined [] a n) same (Itself a))
  | inr apart ↦ inr (λ joined. apart (joined_none a b joined))
]
known_joined (r ∷ relations) a b = known_along (bridged_joined r relations a b) (joined_bridged r relations a b)
    (known_one (known_joined relations a b) (known_one (known_both (known_joined relations a (first_of r)) (known_joined relations (second_of r) b)) (known_both (known_joined relations a (second_of r)) (known_joined relations (first_of r) b))))

known_root : (relations : List Relation) (link : ℕ) → Known (IsRoot relations link)
known_root relations link = known_along
    (λ none other joined. elim (cases_lt other link) [ inl low ↦ absurd (none other low joined) | inr not_low ↦ omega arith ])
    (λ root k low joined. let most = root k joined in omega arith)
    (known_below (λ other. Joined relations link other → ⊥) (λ other. known_not (known_joined relations link other)) link)

-- ---- what is asked

same_format : (f g : Format) → Known (f ≡ g)
same_format f g = elim (cases_eq (place_of f) (place_of g)) [ inl same ↦ inl (same_place f g same) | inr apart ↦ inr (λ e. apart (ap place_of e)) ]

known_is : (o : Option Format) (g : Format) → Known (o ≡ Some g)
known_is None g = inr (λ e. none-some g e)
known_is (Some f) g = known_along (λ e. ap (λ (x : Format). Some x) e) (λ e. same_Some f g e) (same_format f g)

known_relates : (relation : Relation) (f g : Format) → Known (Relates relation f g)
known_relates (Same a b) f g = same_format f g
known_relates (WithAlpha plain alpha) f g = known_is (with_alpha_of f) g

known_meets : (relation : Relation) (formats : List Format) → Known (Meets relation formats)
known_meets relation formats = at (slice_get formats (first_of relation)) refl (slice_get formats (second_of relation)) refl where
  at : (o : Option Format) → slice_get formats (first_of relation) ≡ o → (p : Option Format) → slice_get formats (second_of relation) ≡ p → Known (Meets relation formats)
  at None e p h = inr (λ met. none-some met.first (sym e ∙ met.is_first))
  at (Some f) e None h = inr (λ met. none-some met.second (sym h ∙ met.is_second))
  at (Some f) e (Some g) h = known_along
      (λ relates. record { first = f; is_first = e; second = g; is_second = h; relates = relates })
      (λ met. (
      let one = same_Some met.first f (sym met.is_first ∙ e) in
      let two = same_Some met.second g (sym met.is_second ∙ h) in
      subst (λ (x : Format). Relates relation x g) one (subst (λ (x : Format). Relates relation met.first x) two met.relates)
      ))
      (known_relates relation f g)

known_has : (set : FormatSet) (f : Format) → Known (Has set f)
unfolding Has
known_has set f = cases_eq _ 1

known_wished : (wishes : List Wish) (link : ℕ) (f : Format) → Known (IsWished wishes link f)
known_wished wishes link f = known_along
    (λ all set here. all (record { link = link; set = set }) here refl)
    (λ wished wish here e. wished wish.set (subst (λ (n : ℕ). Contains wishes (record { link = n; set = wish.set })) e here))
    (known_each (λ (wish : Wish). wish.link ≡ link → Has wish.set f) (λ wish. known_if (cases_eq wish.link link) (known_has wish.set f)) wishes)

known_at : (Q : Format → Type 0) → ((f : Format) → Known (Q f)) → (o : Option Format) → Known ((f : Format) → o ≡ Some f → Q f)
known_at Q known None = inl (λ f e. absurd (none-some f e))
known_at Q known (Some x) = elim (known x) [
  | inl is ↦ inl (λ f e. subst Q (same_Some x f e) is)
  | inr not ↦ inr (λ all. not (all x refl))
]

-- ---- listings

-- what a function gives for numbers from one on, as many as given
pub tabulate : (ℕ → Format) → ℕ → ℕ → List Format
tabulate f from zero = []
tabulate f from (suc count) = f from ∷ tabulate f (suc from) count

pub length-tabulate : (f : ℕ → Format) (from count : ℕ) → length (tabulate f from count) ≡ count
unfolding tabulate
length-tabulate f from zero = refl
length-tabulate f from (suc count) = ap suc (length-tabulate f (suc from) count)

tabulated_from : (f : ℕ → Format) (from count k : ℕ) → k < count → slice_get (tabulate f from count) k ≡ Some (f (from + k))
unfolding tabulate
tabulated_from f from zero k low = absurd (omega arith)
tabulated_from f from (suc count) zero low = let here : from ≡ from + 0 = omega arith in ap (λ (n : ℕ). Some (f n)) here
tabulated_from f from (suc count) (suc k) low = let there : suc from + k ≡ from + suc k = omega arith in tabulated_from f (suc from) count k (omega arith) ∙ ap (λ (n : ℕ). Some (f n)) there

pub tabulated : (f : ℕ → Format) (count k : ℕ) → k < count → slice_get (tabulate f 0 count) k ≡ Some (f k)
tabulated f count k low = let same : 0 + k ≡ k = omega arith in tabulated_from f 0 count k low ∙ ap (λ (n : ℕ). Some (f n)) same

module _ (links : ℕ) (wishes : List Wish) (relations : List Relation) where
  known_fits : (link : ℕ) (formats : List Format) → Known (FitsPart links wishes relations link formats)
  known_fits link formats = known_along
      (λ all. record {
        each = all.0;
        wished = λ other f joined e. all.1 other (slice_get_within formats other f e) joined f e;
        met = λ relation here joined. all.2 relation here joined;
      })
      (λ fits. (fits.each, λ other low joined f e. fits.wished other f joined e, λ relation here joined. fits.met relation here joined))
      (known_three (cases_eq (length formats) links)
      (known_below (λ other. Joined relations link other → (f : Format) → slice_get formats other ≡ Some f → IsWished wishes other f)
      (λ other. known_if (known_joined relations link other) (known_at (IsWished wishes other) (known_wished wishes other) (slice_get formats other))) (length formats))
      (known_each (λ relation. Joined relations link (first_of relation) → Meets relation formats) (λ relation. known_if (known_joined relations link (first_of relation)) (known_meets relation formats)) relations))

  known_none : (link : ℕ) → Known (HasNone links wishes relations link)
  known_none link = known_along
      (λ all. record { below = all.0; root = all.1; none = all.2 })
      (λ none. (none.below, none.root, none.none))
      (known_three (known_less link links) (known_root relations link) (elim (some_listing links (FitsPart links wishes relations link) (known_fits link)) [
        | inl found ↦ inr (λ none. none found.0 found.2)
        | inr none ↦ inl (λ formats fits. none formats fits.each fits)
      ]))

  -- ---- the parts' listings

  -- a listing that fits a part and has the format at a link
  abbrev FitsWith : ℕ → Format → Type 0
  FitsWith link f = (formats : List Format) × FitsPart links wishes relations link formats × (slice_get formats link ≡ Some f)

  known_with : (link : ℕ) (f : Format) → Known (FitsWith link f)
  known_with link f = elim (some_listing links (λ formats. FitsPart links wishes relations link formats × (slice_get formats link ≡ Some f)) (λ formats. known_both (known_fits link formats) (known_is (slice_get formats link) f))) [
    | inl found ↦ inl (found.0, found.2.0, found.2.1)
    | inr none ↦ inr (λ with. none with.0 with.1.each (with.1, with.2))
  ]

  abbrev Found : ℕ → Type 0
  Found link = ((f : Format) × FitsWith link f × ((g : Format) → Precedes g f → FitsWith link g → ⊥)) ⊎ ((f : Format) → FitsWith link f → ⊥)

  found : (link : ℕ) → Found link
  found link = first_format (FitsWith link) (known_with link)

  listing_of : (link : ℕ) → Found link → List Format
  listing_of link (inl found) = found.1.0
  listing_of link (inr none) = []

  -- the listing fits, and no other has an earlier format at the link
  record IsBest (link : ℕ) (formats : List Format) : Type 0 where
    pub fits : FitsPart links wishes relations link formats
    pub earliest : (f g : Format) → slice_get formats link ≡ Some f → Precedes g f → FitsWith link g → ⊥

  best : (link : ℕ) → link < links → ((formats : List Format) → FitsPart links wishes relations link formats → ⊥) ⊎ IsBest link (listing_of link (found link))
  unfolding listing_of
  best link low = at (found link) where
    at : (s : Found link) → ((formats : List Format) → FitsPart links wishes relations link formats → ⊥) ⊎ IsBest link (listing_of link s)
    at (inl found) = inr (record {
      fits = found.1.1;
      earliest = λ f g at less with. found.2 g (subst (λ (x : Format). Precedes g x) (same_Some f found.0 (sym at ∙ found.1.2)) less) with;
    })
    at (inr none) = inl (λ formats fits. let at = get_within formats link (let each = fits.each in omega arith) in none at.0 (formats, fits, at.1))

  -- ---- the lowest link of a part

  lowest_joined : (link : ℕ) → ((k : ℕ) × (k < suc link) × Joined relations link k × ((j : ℕ) → j < k → Joined relations link j → ⊥)) ⊎ ((k : ℕ) → k < suc link → Joined relations link k → ⊥)
  lowest_joined link = first_or_none (λ other. Joined relations link other) (λ other. Joined relations link other → ⊥) (λ other. known_joined relations link other) (suc link)

  root_of : ℕ → ℕ
  root_of link = elim (lowest_joined link) [ inl found ↦ found.0 | inr none ↦ link ]

  root_joined : (link : ℕ) → Joined relations link (root_of link) × IsRoot relations (root_of link)
  unfolding root_of
  root_joined link = elim (lowest_joined link) as (λ s. let root : ℕ = elim s [ inl found ↦ found.0 | inr none ↦ link ] in Joined relations link root × IsRoot relations root) [
    | inl found ↦ (
      found.2,
      λ other joined. elim (cases_lt other found.0) [
        | inl low ↦ absurd (found.3 other low (Through link found.0 other found.2 joined))
        | inr not_low ↦ omega arith
      ],
    )
    | inr none ↦ absurd (none link (omega arith) (Itself link))
  ]

  root_low : (link : ℕ) → root_of link ≤ link
  root_low link = (root_joined link).1 link (Back link (root_of link) (root_joined link).0)

  same_root : (a b : ℕ) → Joined relations a b → root_of a ≡ root_of b
  same_root a b joined =
      let one = (root_joined a).1 (root_of b) (Through (root_of a) a (root_of b) (Back a (root_of a) (root_joined a).0) (Through a b (root_of b) joined (root_joined b).0)) in
      let two = (root_joined b).1 (root_of a) (Through (root_of b) b (root_of a) (Back b (root_of b) (root_joined b).0) (Through b a (root_of a) (Back a b joined) (root_joined a).0)) in
      omega arith

  -- ---- listings that fit a part with one format at its lowest link

  determined : (root : ℕ) (x y : List Format) → FitsPart links wishes relations root x → FitsPart links wishes relations root y → (a b : ℕ) → Joined relations a b → Joined relations root a
      → (slice_get x a ≡ slice_get y a) ↔ (slice_get x b ≡ slice_get y b)
  determined root x y fits other _ _ (Itself a) on = (λ e. e, λ e. e)
  determined root x y fits other _ _ (Named r here) on = (forth, back) where
    one : Meets r x
    one = fits.met r here on

    two : Meets r y
    two = other.met r here on

    forth : slice_get x (first_of r) ≡ slice_get y (first_of r) → slice_get x (second_of r) ≡ slice_get y (second_of r)
    forth e =
        let first : one.first ≡ two.first = same_Some one.first two.first (sym one.is_first ∙ (e ∙ two.is_first)) in
        let second = relates_forth r two.first one.second two.second (subst (λ (f : Format). Relates r f one.second) first one.relates) two.relates in
        one.is_second ∙ (ap (λ (f : Format). Some f) second ∙ sym two.is_second)

    back : slice_get x (second_of r) ≡ slice_get y (second_of r) → slice_get x (first_of r) ≡ slice_get y (first_of r)
    back e =
        let second : one.second ≡ two.second = same_Some one.second two.second (sym one.is_second ∙ (e ∙ two.is_second)) in
        let first = relates_back r one.first two.first two.second (subst (λ (f : Format). Relates r one.first f) second one.relates) two.relates in
        one.is_first ∙ (ap (λ (f : Format). Some f) first ∙ sym two.is_first)
  determined root x y fits other _ _ (Back a b joined) on = let both = determined root x y fits other a b joined (Through root b a on (Back a b joined)) in (both.1, both.0)
  determined root x y fits other _ _ (Through a b c one two) on =
      let first = determined root x y fits other a b one on in
      let second = determined root x y fits other b c two (Through root a b on one) in
      (λ e. second.0 (first.0 e), λ e. first.1 (second.1 e))

  -- ---- the parts' listings, put together

  pick : ℕ → Format
  pick link = get_or (listing_of (root_of link) (found (root_of link))) link (Video Gray)

  picked : List Format
  picked = tabulate pick 0 links

  module _ (below : AreBelow links wishes relations) (all : (link : ℕ) → link < links → HasNone links wishes relations link → ⊥) where
    part_best : (link : ℕ) → link < links → IsBest (root_of link) (listing_of (root_of link) (found (root_of link)))
    part_best link low =
        let root_below : root_of link < links = (let less = root_low link in omega arith) in
        elim (best (root_of link) root_below) [
          | inl none ↦ absurd (all (root_of link) root_below (record { below = root_below; root = (root_joined link).1; none = none }))
          | inr is ↦ is
        ]

    picked_at : (link : ℕ) → link < links → slice_get picked link ≡ slice_get (listing_of (root_of link) (found (root_of link))) link
    unfolding picked pick
    picked_at link low =
        let each = (part_best link low).fits.each in
        let there = slice_get-get_or (listing_of (root_of link) (found (root_of link))) link (Video Gray) (omega arith) in
        tabulated pick links link low ∙ sym there

    picked_all : IsAssignment links wishes relations picked
    unfolding picked
    picked_all = record {
      each = length-tabulate pick 0 links;
      wished = λ link f at. (
          let low : link < links = (let within = slice_get_within picked link f at in let each = length-tabulate pick 0 links in omega arith) in
          (part_best link low).fits.wished link f (Back link (root_of link) (root_joined link).0) (sym (picked_at link low) ∙ at)
          );
      met = λ relation here. (
          let low = below.relations_below relation here in
          let listing : ℕ → List Format = λ root. listing_of root (found root) in
          let root = root_of (first_of relation) in
          let met = (part_best (first_of relation) low.0).fits.met relation here (Back (first_of relation) root (root_joined (first_of relation)).0) in
          let roots = same_root (first_of relation) (second_of relation) (Named relation here) in
          record {
            first = met.first;
            is_first = picked_at (first_of relation) low.0 ∙ met.is_first;
            second = met.second;
            is_second = picked_at (second_of relation) low.1 ∙ (ap (λ (n : ℕ). slice_get (listing n) (second_of relation)) (sym roots) ∙ met.is_second);
            relates = met.relates;
          }
          );
    }

    picked_earliest : (link : ℕ) → HasEarlier links wishes relations picked link → ⊥
    unfolding picked
    picked_earliest link has =
        let low : link < links = (let within = slice_get_within picked link has.here has.is_here in let each = length-tabulate pick 0 links in omega arith) in
        let root = root_of link in
        let joined = (root_joined link).0 in
        let listing = listing_of root (found root) in
        let is = part_best link low in
        let fits = fits_joined links wishes relations link root has.other joined has.fits in
        let here : slice_get listing link ≡ Some has.here = sym (picked_at link low) ∙ has.is_here in
        elim (cases_eq root link) [
          | inl same ↦ is.earliest has.here has.earlier (ap (slice_get listing) same ∙ here) has.precedes (has.other, fits, ap (slice_get has.other) same ∙ has.is_earlier)
          | inr apart ↦ (
              let less : root < link = (let most = root_low link in omega arith) in
              let again : root_of root ≡ root = sym (same_root link root joined) in
              let root_at = picked_at root (omega arith) ∙ ap (λ (n : ℕ). slice_get (listing_of n (found n)) root) again in
              let agree : slice_get has.other root ≡ slice_get listing root = has.agrees root less joined ∙ root_at in
              let same = (determined root has.other listing fits is.fits root link (Back link root joined) (Itself root)).0 agree in
              let e : has.earlier ≡ has.here = same_Some has.earlier has.here (sym has.is_earlier ∙ (same ∙ here)) in
              let places = ap place_of e in
              let precedes = has.precedes in
              absurd (omega arith)
              )
        ]

  pub one_of_both : AreBelow links wishes relations → ((formats : List Format) × IsChosen links wishes relations formats) ⊎ ((link : ℕ) × IsFirstWithout links wishes relations link)
  one_of_both below = elim (first_or_none (HasNone links wishes relations) (λ k. HasNone links wishes relations k → ⊥) known_none links) [
    | inl found ↦ inr (found.0, record { without = found.2; first = found.3 })
    | inr all ↦ inl (picked, record { assignment = picked_all below all; earliest = picked_earliest below all })
  ]
