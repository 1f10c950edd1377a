-- One chosen assignment, or one fault.
use Rattle.std.proofs.Common.{◌≡◌, ◌<◌, ℕ, suc, zero, List, Some, sym, ◌∙◌, ap, subst, arith, inl, inr}
use Rattle.std.specs.List.{slice_get}
use Rattle.std.proofs.lemmas.Bool.{cases_eq, cases_lt}
use Rattle.std.proofs.lemmas.Option.{slice_get_past}
use Rattle.av_base.specs.declared.formats.Format.{Format}
use Rattle.av_base.specs.FormatSets.{place_of, Precedes}
use Rattle.av_base.proofs.FormatSetLemmas.{same_place}
use Rattle.graph_formats.specs.declared.request.Relation.{Relation}
use Rattle.graph_formats.specs.declared.request.Wish.{Wish}
use Rattle.graph_formats.specs.Assignments.{first_of, Joined, Through, IsAssignment, FitsPart, IsChosen, IsFirstWithout}
use Rattle.av_base.proofs.Lists.{get_within, same_gets}

-- a format doesn't come before itself
pub precedes_other : (f g : Format) → Precedes f g → f ≡ g → ⊥
precedes_other f g less same = let e = ap place_of same in omega arith

-- what is asked
module _ (links : ℕ) (wishes : List Wish) (relations : List Relation) where
  -- an assignment fits each part
  pub assigned_fits : (formats : List Format) → IsAssignment links wishes relations formats → (link : ℕ) → FitsPart links wishes relations link formats
  assigned_fits formats is link = record { each = is.each; wished = λ other f joined at. is.wished other f at; met = λ relation here joined. is.met relation here }

  -- a listing that fits the part of a link fits that of a link that is joined to it
  pub fits_joined : (link other : ℕ) (formats : List Format) → Joined relations link other → FitsPart links wishes relations link formats → FitsPart links wishes relations other formats
  fits_joined link other formats joined fits = record {
    each = fits.each;
    wished = λ more f on at. fits.wished more f (Through link other more joined on) at;
    met = λ relation here on. fits.met relation here (Through link other (first_of relation) joined on);
  }

  -- the one has no earlier format at a link before which both agree
  not_earlier : (a b : List Format) → IsChosen links wishes relations a → IsChosen links wishes relations b → (link : ℕ) → ((before : ℕ) → before < link → slice_get a before ≡ slice_get b before)
      → (f g : Format) → slice_get a link ≡ Some f → slice_get b link ≡ Some g → Precedes f g → ⊥
  not_earlier a b is other link agree f g at there less = other.earliest link (record {
    other = a;
    fits = assigned_fits a is.assignment link;
    agrees = λ before low joined. agree before low;
    here = g;
    is_here = there;
    earlier = f;
    is_earlier = at;
    precedes = less;
  })

  same_here : (a b : List Format) → IsChosen links wishes relations a → IsChosen links wishes relations b → (link : ℕ) → ((before : ℕ) → before < link → slice_get a before ≡ slice_get b before)
      → slice_get a link ≡ slice_get b link
  same_here a b is other link agree = elim (cases_lt link links) [
    | inl low ↦ (
        let f = get_within a link (let each = is.assignment.each in omega arith) in
        let g = get_within b link (let each = other.assignment.each in omega arith) in
        elim (cases_lt (place_of f.0) (place_of g.0)) [
          | inl less ↦ absurd (not_earlier a b is other link agree f.0 g.0 f.1 g.1 less)
          | inr not_less ↦ elim (cases_lt (place_of g.0) (place_of f.0)) [
            | inl more ↦ absurd (not_earlier b a other is link (λ before low. sym (agree before low)) g.0 f.0 g.1 f.1 more)
            | inr not_more ↦ f.1 ∙ (ap (λ (x : Format). Some x) (same_place f.0 g.0 (omega arith)) ∙ sym g.1)
          ]
        ]
        )
    | inr past ↦ slice_get_past a link (let each = is.assignment.each in omega arith) ∙ sym (slice_get_past b link (let each = other.assignment.each in omega arith))
  ]

  same_below : (a b : List Format) → IsChosen links wishes relations a → IsChosen links wishes relations b → (count link : ℕ) → link < count → slice_get a link ≡ slice_get b link
  same_below a b is other zero link low = absurd (omega arith)
  same_below a b is other (suc count) link low = elim (cases_eq link count) [
    | inl same ↦ (let P : ℕ → Type 0 = λ n. slice_get a n ≡ slice_get b n in subst P (sym same) (same_here a b is other count (same_below a b is other count)))
    | inr apart ↦ same_below a b is other count link (omega arith)
  ]

  pub one_assignment : (a b : List Format) → IsChosen links wishes relations a → IsChosen links wishes relations b → a ≡ b
  one_assignment a b is other = same_gets a b (is.assignment.each ∙ sym other.assignment.each) (λ link f at. sym (same_below a b is other (suc link) link (omega arith)) ∙ at)

  pub one_fault : (a b : ℕ) → IsFirstWithout links wishes relations a → IsFirstWithout links wishes relations b → a ≡ b
  one_fault a b is other = elim (cases_lt a b) [
    | inl less ↦ absurd (other.first a less is.without)
    | inr not_less ↦ elim (cases_lt b a) [
      | inl more ↦ absurd (is.first b more other.without)
      | inr not_more ↦ omega arith
    ]
  ]

  pub not_both : (formats : List Format) (link : ℕ) → IsAssignment links wishes relations formats → IsFirstWithout links wishes relations link → ⊥
  not_both formats link is fault = fault.without.none formats (assigned_fits formats is link)
