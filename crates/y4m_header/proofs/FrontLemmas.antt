-- Faults of the beginning of a line.
use Rattle.std.proofs.Common.{◌≡◌, ℕ, ◌⊎◌, Bool, true, false, Option, Some, None, Err, List, [], ◌∷◌, ◌++◌, refl, sym, ap, ◌∙◌, subst, inl, inr, is_some, append_assoc}
use Rattle.std.specs.Prelude.{Contains}
use Rattle.std.specs.List.{slice_split}
use Rattle.std.proofs.lemmas.Bool.{cases_Bool, false≢true}
use Rattle.std.proofs.lemmas.List.Elements.{Contains-append_right, Contains-append_cases}
use Rattle.y4m_header.specs.Front.{Completes, GoesOn, is_ordered, are_ordered}
use Rattle.y4m_header.specs.Params.{Param, params_in, params_of, is_space, is_letter}
use Rattle.y4m_header.specs.Said.{magic, ordered_in, HeaderMeans, Other, Disorder, Colour, StandsAlways}
use Rattle.y4m_header.specs.declared.fault.HeaderFault.{HeaderFault}
use Rattle.y4m_header.specs.declared.fault.HeaderFault.TheVariants.{NotMedia, BadHeader, BadColour}
use Rattle.y4m_header.proofs.ColonLemmas.{first_part}
use Rattle.y4m_header.proofs.FrontWalk.{glue, split_append, small_size}
use Rattle.y4m_header.proofs.LawLemmas.{two_orders}
use Rattle.y4m_header.proofs.SaidLemmas.{order_of}
use Rattle.y4m_header.proofs.WrittenLemmas.{none_above}

-- ---- what follows the name

pub nothing_goes : Completes 10 is_ordered []
nothing_goes = record { more = small_size; above = refl; passes = refl }

pub params_go : (text : List ℕ) (t : Bool) → GoesOn 10 are_ordered text t → GoesOn 10 is_ordered (32 ∷ text) t
params_go text true h = record { more = h.more; above = h.above; passes = h.passes }
params_go text false h = h

-- ---- a space at the end

part_none : (a b : List ℕ) (pieces : List (List ℕ)) → params_in (b ∷ pieces) ≡ None → params_in (a ∷ (b ∷ pieces)) ≡ None
part_none [] b pieces e = e
part_none (c ∷ value) b pieces e = elim (cases_Bool (is_letter c)) [ inl on ↦ rw (on, e) refl | inr off ↦ rw off refl ]

gap_none : (a : List ℕ) (pieces : List (List ℕ)) → params_in (glue (a ∷ pieces) ([] ∷ ([] ∷ []))) ≡ None
gap_none a [] = part_none (a ++ []) [] [] refl
gap_none a (b ∷ []) = part_none a (b ++ []) ([] ∷ []) (gap_none b [])
gap_none a (b ∷ (c ∷ pieces)) = part_none a b (glue (c ∷ pieces) ([] ∷ ([] ∷ []))) (gap_none b (c ∷ pieces))

end_space : (rest : List ℕ) → ordered_in (rest ++ 32 ∷ []) ≡ None
end_space [] = refl
end_space (c ∷ text) = elim (cases_Bool (is_space c)) [
  | inr off ↦ rw off refl
  | inl on ↦
      let first = first_part is_space text in
      let pieces : slice_split is_space (text ++ 32 ∷ []) ≡ glue (first.0 ∷ first.1) ([] ∷ ([] ∷ [])) =
      split_append is_space text (32 ∷ []) ∙ ap (λ (ps : List (List ℕ)). glue ps ([] ∷ ([] ∷ []))) first.2 in
      let none : params_in (slice_split is_space (text ++ 32 ∷ [])) ≡ None = ap params_in pieces ∙ gap_none first.0 first.1 in
      let params : params_of ((c ∷ text) ++ 32 ∷ []) ≡ None = rw on none in
      ap order_of params
]

-- ---- faults that don't hold always

not_media : {text : List ℕ} (rest : List ℕ) → HeaderMeans text (Err NotMedia) → text ≡ magic ++ rest → ⊥
not_media rest (Other none) e = none rest e

not_disorder : {text : List ℕ} (rest : List ℕ) (params : List Param) → HeaderMeans text (Err BadHeader) → text ≡ magic ++ rest → ordered_in rest ≡ Some params → ⊥
not_disorder rest params (Disorder other f none) e some = two_orders other rest params f e none some

not_colour : {text : List ℕ} (rest : List ℕ) → HeaderMeans text (Err BadColour) → text ≡ magic ++ rest → ordered_in rest ≡ None → ⊥
not_colour rest (Colour other params f some unknown) e none = two_orders rest other params e f none some

-- a line with this beginning that is in order, and one that isn't
record MayBeBoth (front : List ℕ) : Type 0 where
  good : List ℕ
  good_rest : List ℕ
  params : List Param
  good_no_feed : ¬ Contains good 10
  good_is : front ++ good ≡ magic ++ good_rest
  ordered : ordered_in good_rest ≡ Some params
  bad : List ℕ
  bad_rest : List ℕ
  bad_no_feed : ¬ Contains bad 10
  bad_is : front ++ bad ≡ magic ++ bad_rest
  disordered : ordered_in bad_rest ≡ None

no_fault : {front : List ℕ} → MayBeBoth front → (e : HeaderFault) → ¬ StandsAlways front e
no_fault {front} b NotMedia always = not_media b.good_rest (always b.good b.good_no_feed) b.good_is
no_fault {front} b BadHeader always = not_disorder b.good_rest b.params (always b.good b.good_no_feed) b.good_is b.ordered
no_fault {front} b BadColour always = not_colour b.bad_rest (always b.bad b.bad_no_feed) b.bad_is b.disordered

-- ---- the front

known_params : (o : Option (List Param)) → is_some o ≡ true → (params : List Param) × (o ≡ Some params)
known_params None e = absurd (false≢true e)
known_params (Some params) e = (params, refl)

-- the beginning of the name of the format
pub begun_none : (front rest : List ℕ) → magic ≡ front ++ rest → (e : HeaderFault) → ¬ StandsAlways front e
begun_none front rest is =
    let no_feed : ¬ Contains rest 10 = λ has. none_above 10 magic refl (subst (λ (z : List ℕ). Contains z 10) (sym is) (Contains-append_right front rest 10 has)) in
    let params = known_params (ordered_in small_size) refl in
    no_fault (record {
      good = rest ++ small_size;
      good_rest = small_size;
      params = params.0;
      good_no_feed = λ has. elim (Contains-append_cases rest small_size 10 has) [ inl first ↦ no_feed first | inr size ↦ none_above 10 small_size refl size ];
      good_is = sym (append_assoc front rest small_size) ∙ ap (λ (z : List ℕ). z ++ small_size) (sym is);
      ordered = params.1;
      bad = rest;
      bad_rest = [];
      bad_no_feed = no_feed;
      bad_is = sym is;
      disordered = refl;
    })

pub rest_none : {front rest : List ℕ} → front ≡ magic ++ rest → Completes 10 is_ordered rest → (e : HeaderFault) → ¬ StandsAlways front e
rest_none {front} {rest} is h =
    let params = known_params (ordered_in (rest ++ h.more)) h.passes in
    no_fault (record {
      good = h.more;
      good_rest = rest ++ h.more;
      params = params.0;
      good_no_feed = none_above 10 h.more h.above;
      good_is = ap (λ (z : List ℕ). z ++ h.more) is ∙ append_assoc magic rest h.more;
      ordered = params.1;
      bad = 32 ∷ [];
      bad_rest = rest ++ 32 ∷ [];
      bad_no_feed = none_above 10 (32 ∷ []) refl;
      bad_is = ap (λ (z : List ℕ). z ++ 32 ∷ []) is ∙ append_assoc magic rest (32 ∷ []);
      disordered = end_space rest;
    })

none_from : (o : Option (List Param)) → is_some o ≡ false → o ≡ None
none_from None e = refl
none_from (Some params) e = absurd (false≢true (sym e))

pub rest_fault : {front rest : List ℕ} → front ≡ magic ++ rest → ((more : List ℕ) → is_ordered (rest ++ more) ≡ false) → StandsAlways front BadHeader
rest_fault {front} {rest} is bad = λ more no_feed.
    Disorder (rest ++ more) (ap (λ (z : List ℕ). z ++ more) is ∙ append_assoc magic rest more) (none_from (ordered_in (rest ++ more)) (bad more))

-- of two texts that begin one text, one begins the other
one_begins : (front name more rest : List ℕ) → front ++ more ≡ name ++ rest → ((r : List ℕ) × (front ≡ name ++ r)) ⊎ ((r : List ℕ) × (name ≡ front ++ r))
one_begins [] name more rest e = inr (name, refl)
one_begins (c ∷ front) [] more rest e = inl (c ∷ front, refl)
one_begins (c ∷ front) (d ∷ name) more rest e =
    let same : c ≡ d = cc in
    elim (one_begins front name more rest (cc)) [
      | inl longer ↦ inl (longer.0, let is = longer.1 in cc)
      | inr shorter ↦ inr (shorter.0, let is = shorter.1 in cc)
    ]

pub media_fault : (front : List ℕ) → ((rest : List ℕ) → front ≡ magic ++ rest → ⊥) → ((rest : List ℕ) → magic ≡ front ++ rest → ⊥) → StandsAlways front NotMedia
media_fault front longer shorter = λ more no_feed. Other (λ rest e. elim (one_begins front magic more rest e) [ inl h ↦ longer h.0 h.1 | inr h ↦ shorter h.0 h.1 ])
