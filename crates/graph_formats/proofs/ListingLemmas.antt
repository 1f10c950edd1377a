-- One listing of formats after another.
use Rattle.std.proofs.Common.{◌≡◌, ◌<◌, ◌≤◌, ◌+◌, ◌-◌, ◌++◌, ◌⊎◌, ℕ, List, [], ◌∷◌, Some, true, false, length, get_or, take, refl, sym, ◌∙◌, ap, subst, arith, inl, inr}
use Rattle.std.specs.List.{slice_get, Contains}
use Rattle.std.proofs.lemmas.Bool.{cases_eq, cases_lt}
use Rattle.std.proofs.lemmas.List.{append_assoc, append-nil, take_at, length_push}
use Rattle.std.proofs.lemmas.Option.{same_Some, slice_get_within, slice_get-get_or}
use Rattle.av_base.specs.declared.sets.TheConstants.{FORMATS}
use Rattle.av_base.specs.declared.formats.PixelFormat.TheVariants.{Gray}
use Rattle.av_base.specs.declared.formats.Format.{Format}
use Rattle.av_base.specs.declared.formats.Format.TheVariants.{Video}
use Rattle.std.proofs.lemmas.List.Elements.{Contains-push_cases}
use Rattle.av_base.specs.FormatSets.{Has, place_of}
use Rattle.av_base.proofs.FormatSetLemmas.{same_place, place_at, place_low}
use Rattle.graph_formats.specs.declared.request.Relation.{Relation}
use Rattle.graph_formats.specs.declared.request.Wish.{Wish}
use Rattle.graph_formats.specs.Assignments.{first_of, second_of, AreBelow, IsAssignment, Joined, Named, Back, Through, Itself, FitsPart, IsChosen}
use Rattle.graph_formats.specs.Listings.{AreWished, IsBefore, BeginsWith, Completes}
use Rattle.av_base.proofs.Lists.{get_within, append_get_left, pushed_last}
use Rattle.graph_formats.proofs.LawLemmas.{precedes_other}
use Rattle.graph_formats.proofs.TotalLemmas.{known_joined, tabulate, tabulated, length-tabulate}

-- ---- wishes

-- a wish that a format doesn't meet
pub wished_refused : (wishes : List Wish) (wish : Wish) (formats : List Format) (f : Format) → Contains wishes wish → slice_get formats wish.link ≡ Some f → (Has wish.set f → ⊥) → AreWished wishes formats → ⊥
wished_refused wishes wish formats f here at not all = not (all wish.link f at wish.set here)

pub wished_more : (wishes : List Wish) (wish : Wish) (formats : List Format) (f : Format) → AreWished wishes formats → slice_get formats wish.link ≡ Some f → Has wish.set f → AreWished (wishes ++ wish ∷ []) formats
wished_more wishes wish formats f all at has link g there set here = elim (Contains-push_cases wishes wish _ here) [
  | inl old ↦ all link g there set old
  | inr same ↦ (
      let P : Wish → Type 0 = λ w. Has w.set g in
      let e : f ≡ g = same_Some f g (sym at ∙ (ap (λ (w : Wish). slice_get formats w.link) same ∙ there)) in
      subst P same (subst (λ (x : Format). Has wish.set x) e has)
      )
]

-- ---- listings that begin with another

begins_at : (start : List Format) (f : Format) (other : List Format) → BeginsWith (start ++ f ∷ []) other → slice_get other (length start) ≡ Some f
begins_at start f other begins = ap (λ (l : List Format). slice_get l (length start)) begins.1 ∙ append_get_left (start ++ f ∷ []) begins.0 (length start) f (pushed_last start f)

-- a listing that is longer than its beginning goes on with a format
begins_on : (start other : List Format) → BeginsWith start other → length start < length other → (f : Format) × BeginsWith (start ++ f ∷ []) other × (slice_get other (length start) ≡ Some f)
begins_on start other begins longer = on begins.0 begins.1 where
  on : (rest : List Format) → other ≡ start ++ rest → (f : Format) × BeginsWith (start ++ f ∷ []) other × (slice_get other (length start) ≡ Some f)
  on [] e = absurd (let same = ap length (e ∙ append-nil start) in omega arith)
  on (f ∷ rest) e = let split = e ∙ sym (append_assoc start (f ∷ []) rest) in (f, (rest, split), begins_at start f other (rest, split))

begins_less : (start : List Format) (f : Format) (other : List Format) → BeginsWith (start ++ f ∷ []) other → BeginsWith start other
begins_less start f other begins = (f ∷ begins.0, begins.1 ∙ append_assoc start (f ∷ []) begins.0)

-- what begins alike is alike there
begins_alike : (start one other : List Format) → BeginsWith start one → BeginsWith start other → (k : ℕ) → k < length start → slice_get one k ≡ slice_get other k
begins_alike start one other p q k low =
    let at = get_within start k low in
    let first = ap (λ (l : List Format). slice_get l k) p.1 ∙ append_get_left start p.0 k at.0 at.1 in
    let second = ap (λ (l : List Format). slice_get l k) q.1 ∙ append_get_left start q.0 k at.0 at.1 in
    first ∙ sym second

-- ---- the search

module _ (links : ℕ) (wishes : List Wish) (relations : List Relation) where
  -- no assignment goes on with one of the first formats
  pub record Completing (old now : List Format) (count : ℕ) : Type 0 where
    pub same : now ≡ old
    pub failed : (other : List Format) → IsAssignment links wishes relations other → (f : Format) → place_of f < count → BeginsWith (old ++ f ∷ []) other → ⊥

  pub completing_more : (old now new : List Format) (count : ℕ) (d : Format) → count < 10 → Completing old now count → new ≡ old
      → ((other : List Format) → IsAssignment links wishes relations other → BeginsWith (old ++ get_or FORMATS count d ∷ []) other → ⊥) → Completing old new (count + 1)
  completing_more old now new count d low is same none = record {
    same = same;
    failed = λ other assigned f less begins. elim (cases_eq (place_of f) count) [
      | inl here ↦ none other assigned (subst (λ (g : Format). BeginsWith (old ++ g ∷ []) other) (same_place f (get_or FORMATS count d) (here ∙ sym (place_at count d low))) begins)
      | inr apart ↦ is.failed other assigned f (omega arith) begins
    ];
  }

  pub completing_found : (old now new : List Format) (count : ℕ) (d : Format) → count < 10 → length old < links → Completing old now count
      → Completes links wishes relations (old ++ get_or FORMATS count d ∷ []) new true → Completes links wishes relations old new true
  completing_found old now new count d low room is found = (
    found.0,
    begins_less old (get_or FORMATS count d) new found.1,
    λ other assigned begins before. (
        let format : Format = get_or FORMATS count d in
        let place = place_at count d low in
        let on = begins_on old other begins (let each = assigned.each in omega arith) in
        let here : slice_get new (length old) ≡ Some format = begins_at old format new found.1 in
        elim (cases_lt (place_of on.0) count) [
          | inl less ↦ is.failed other assigned on.0 less on.1
          | inr not_less ↦ elim (cases_eq (place_of on.0) count) [
            | inl same ↦ found.2 other assigned (subst (λ (g : Format). BeginsWith (old ++ g ∷ []) other) (same_place on.0 format (same ∙ sym place)) on.1) before
            | inr apart ↦ elim (cases_lt before.place (length old)) [
              | inl lower ↦ (
                  let alike = begins_alike old other new begins (begins_less old format new found.1) before.place lower in
                  precedes_other before.earlier before.later before.precedes (same_Some before.earlier before.later (sym before.is_earlier ∙ (alike ∙ before.is_later)))
                  )
              | inr not_lower ↦ elim (cases_lt (length old) before.place) [
                | inl after ↦ (
                    let e : on.0 ≡ format = same_Some on.0 format (sym on.2 ∙ (before.agrees (length old) after ∙ here)) in
                    apart (ap place_of e ∙ place)
                    )
                | inr not_after ↦ (
                    let same : before.place ≡ length old = omega arith in
                    let one : before.earlier ≡ on.0 = same_Some before.earlier on.0 (sym before.is_earlier ∙ (ap (slice_get other) same ∙ on.2)) in
                    let two : before.later ≡ format = same_Some before.later format (sym before.is_later ∙ (ap (slice_get new) same ∙ here)) in
                    let first = ap place_of one in
                    let second = ap place_of two in
                    let precedes = before.precedes in
                    absurd (omega arith)
                    )
              ]
            ]
          ]
        ]
        ),
  )

  pub completing_none : (old now : List Format) (count : ℕ) → 10 ≤ count → length old < links → Completing old now count → Completes links wishes relations old now false
  completing_none old now count all room is = (
    is.same,
    λ other assigned begins. (
        let on = begins_on old other begins (let each = assigned.each in omega arith) in
        is.failed other assigned on.0 (let low = place_low on.0 in omega arith) on.1
        ),
  )

-- ---- the first assignment is the chosen one

module _ (links : ℕ) (wishes : List Wish) (relations : List Relation) (below : AreBelow links wishes relations) (formats : List Format) (is : IsAssignment links wishes relations formats) where
  -- the other's formats at the part of a link
  mix : List Format → ℕ → ℕ → Format
  mix other link k = elim (known_joined relations link k) [ inl joined ↦ get_or other k (Video Gray) | inr apart ↦ get_or formats k (Video Gray) ]

  mixed : List Format → ℕ → List Format
  mixed other link = tabulate (mix other link) 0 links

  mixed_each : (other : List Format) (link : ℕ) → length (mixed other link) ≡ links
  unfolding mixed
  mixed_each other link = length-tabulate (mix other link) 0 links

  mixed_cases : (other : List Format) (link k : ℕ) → length other ≡ links → k < links
      → (Joined relations link k × (slice_get (mixed other link) k ≡ slice_get other k)) ⊎ ((Joined relations link k → ⊥) × (slice_get (mixed other link) k ≡ slice_get formats k))
  unfolding mixed mix
  mixed_cases other link k each low =
      let at = tabulated (mix other link) links k low in
      let P : Format → Type 0 = λ f. Some f ≡ slice_get other k in
      elim (known_joined relations link k) as (λ s. slice_get (tabulate (mix other link) 0 links) k ≡ Some (elim s [ inl joined ↦ get_or other k (Video Gray) | inr apart ↦ get_or formats k (Video Gray) ])
      → (Joined relations link k × (slice_get (tabulate (mix other link) 0 links) k ≡ slice_get other k)) ⊎ ((Joined relations link k → ⊥) × (slice_get (tabulate (mix other link) 0 links) k ≡ slice_get formats k))) [
        | inl joined ↦ λ e. inl (joined, e ∙ sym (slice_get-get_or other k (Video Gray) (omega arith)))
        | inr apart ↦ λ e. inr (apart, e ∙ sym (slice_get-get_or formats k (Video Gray) (let each = is.each in omega arith)))
      ] at

  mixed_all : (other : List Format) (link : ℕ) → FitsPart links wishes relations link other → IsAssignment links wishes relations (mixed other link)
  mixed_all other link fits = record {
    each = mixed_each other link;
    wished = λ k f at. (
        let low : k < links = (let within = slice_get_within (mixed other link) k f at in let each = mixed_each other link in omega arith) in
        elim (mixed_cases other link k fits.each low) [
          | inl here ↦ fits.wished k f here.0 (sym here.1 ∙ at)
          | inr apart ↦ is.wished k f (sym apart.1 ∙ at)
        ]
        );
    met = λ relation here. (
        let low = below.relations_below relation here in
        let bridge = Named relation here in
        elim (mixed_cases other link (first_of relation) fits.each low.0) [
          | inl first ↦ elim (mixed_cases other link (second_of relation) fits.each low.1) [
            | inl second ↦ (
                let met = fits.met relation here first.0 in
                record { first = met.first; is_first = first.1 ∙ met.is_first; second = met.second; is_second = second.1 ∙ met.is_second; relates = met.relates }
                )
            | inr apart ↦ absurd (apart.0 (Through link (first_of relation) (second_of relation) first.0 bridge))
          ]
          | inr first ↦ elim (mixed_cases other link (second_of relation) fits.each low.1) [
            | inl second ↦ absurd (first.0 (Through link (second_of relation) (first_of relation) second.0 (Back (first_of relation) (second_of relation) bridge)))
            | inr second ↦ (
                let met = is.met relation here in
                record { first = met.first; is_first = first.1 ∙ met.is_first; second = met.second; is_second = second.1 ∙ met.is_second; relates = met.relates }
                )
          ]
        ]
        );
  }

  pub first_is_chosen : ((other : List Format) → IsAssignment links wishes relations other → IsBefore other formats → ⊥) → IsChosen links wishes relations formats
  first_is_chosen first = record {
    assignment = is;
    earliest = λ link has. (
        let low : link < links = (let within = slice_get_within formats link has.here has.is_here in let each = is.each in omega arith) in
        first (mixed has.other link) (mixed_all has.other link has.fits) (record {
          place = link;
          agrees = λ k less. elim (mixed_cases has.other link k has.fits.each (omega arith)) [
            | inl here ↦ here.1 ∙ has.agrees k less here.0
            | inr apart ↦ apart.1
          ];
          earlier = has.earlier;
          is_earlier = elim (mixed_cases has.other link link has.fits.each low) [
            | inl here ↦ here.1 ∙ has.is_earlier
            | inr apart ↦ absurd (apart.0 (Itself link))
          ];
          later = has.here;
          is_later = has.is_here;
          precedes = has.precedes;
        })
        );
  }

-- ---- the last format is taken off again

pub taken_off : (old begun left : List Format) (f : Format) (count : ℕ) → begun ≡ old ++ f ∷ [] → count ≡ length begun → left ≡ take (count - 1) begun → left ≡ old
taken_off old begun left f count e long is =
    is ∙ (ap (λ (l : List Format). take (count - 1) l) e ∙ take_at old (f ∷ []) (count - 1) (let more = ap length e in let one = length_push old f in omega arith))

pub begins_empty : (formats : List Format) → BeginsWith [] formats
begins_empty formats = (formats, refl)
