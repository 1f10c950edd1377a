-- Texts that are cut at colons.
use Rattle.std.proofs.Common.{◌≡◌, ◌⊎◌, ℕ, ◌+◌, ◌<◌, ◌≤◌, Bool, true, false, cond, ltb, Option, Some, None, List, [], ◌∷◌, ◌++◌, take, drop, length, get_or, map, refl, sym, ap, ◌∙◌, subst, arith, inl, inr}
use Rattle.std.specs.List.{All, list_any, list_all, position_or_len, slice_split, onto_first}
use Rattle.std.proofs.lemmas.Bool.{eqb-true, lt-ltb, le-ltb, or_parts, or_cases, and_left, and_right, cases_Bool, false≢true, cases_lt}
use Rattle.std.proofs.lemmas.List.{get_or-take, length-take}
use Rattle.std.specs.Char.{is_digit}
use Rattle.std.proofs.lemmas.List.Elements.{All-cons}
use Rattle.std.proofs.lemmas.List.Folds.{list_any_none}
use Rattle.std.proofs.lemmas.List.Sums.{split_at_first, passes_at_first, fails_before_first}
use Rattle.std.proofs.lemmas.List.Splits.{slice_split_at, slice_split_none, slice_split-cons_yes, slice_split-cons_no}
use Rattle.y4m_header.specs.Params.{is_colon, number_in, numbers_in, both_of}
use Rattle.y4m_header.specs.Parts.{HasNoColon, IsAroundColon, pair_of}

abbrev place : List ℕ → ℕ
place xs = position_or_len is_colon xs

abbrev found_at : ℕ → ℕ → Option ℕ
found_at at long = cond (ltb at long) (Some at) None

some_place : (at long k : ℕ) → found_at at long ≡ Some k → (at < long) × (at ≡ k)
some_place at long k e = elim (cases_lt at long) [
  | inl less ↦ let on : found_at at long ≡ Some at = rw (lt-ltb at long less) refl in (less, cc)
  | inr more ↦ let off : found_at at long ≡ None = rw (le-ltb at long more) refl in absurd (cc)
]

no_place : (at long : ℕ) → found_at at long ≡ None → long ≤ at
no_place at long e = elim (cases_lt at long) [
  | inl less ↦ let on : found_at at long ≡ Some at = rw (lt-ltb at long less) refl in absurd (cc)
  | inr more ↦ more
]

pub none_here : (xs : List ℕ) → found_at (place xs) (length xs) ≡ None → HasNoColon xs
none_here xs e =
    let past = no_place (place xs) (length xs) e in
    list_any_none is_colon xs (λ k d h. fails_before_first is_colon xs k d (omega arith))

before_has_none : (xs : List ℕ) → place xs < length xs → HasNoColon (take (place xs) xs)
before_has_none xs less = list_any_none is_colon (take (place xs) xs) (λ k d h.
    let early : k < place xs = omega (arith, length-take (place xs) xs) in
    rw (get_or-take (place xs) xs k d early) (fails_before_first is_colon xs k d early))

pub around_here : (xs : List ℕ) (k : ℕ) → found_at (place xs) (length xs) ≡ Some k → IsAroundColon xs (take k xs) (drop (k + 1) xs)
around_here xs k e =
    let found = some_place (place xs) (length xs) k e in
    let colon = eqb-true (get_or xs (place xs) 0) 58 (passes_at_first is_colon xs 0 found.0) in
    let here : IsAroundColon xs (take (place xs) xs) (drop (place xs + 1) xs) = record {
      text_is = split_at_first is_colon xs 0 found.0 ∙ ap (λ (c : ℕ). take (place xs) xs ++ c ∷ drop (place xs + 1) xs) colon;
      first = before_has_none xs found.0;
    } in
    subst (λ (n : ℕ). IsAroundColon xs (take n xs) (drop (n + 1) xs)) found.1 here

-- ---- parts

pub none_in : {X : Type 0} (p : X → Bool) (xs : List X) → list_any p xs ≡ false → All (λ x. p x ≡ false) xs
none_in p [] e = λ k d h. absurd (omega arith)
none_in p (x ∷ xs) e = All-cons (λ x. p x ≡ false) x xs (or_parts (p x) (list_any p xs) e).0 (none_in p xs (or_parts (p x) (list_any p xs) e).1)

-- the first part of a text at its first colon
pub split_around : {text before after : List ℕ} → IsAroundColon text before after → slice_split is_colon text ≡ before ∷ slice_split is_colon after
split_around {text} {before} {after} a = ap (slice_split is_colon) a.text_is ∙ slice_split_at is_colon before 58 after (none_in is_colon before a.first) refl

-- there is a first part
pub first_part : (p : ℕ → Bool) (xs : List ℕ) → (part : List ℕ) × (parts : List (List ℕ)) × (slice_split p xs ≡ part ∷ parts)
first_part p [] = ([], [], refl)
first_part p (x ∷ xs) = elim (cases_Bool (p x)) [
  | inl on ↦ ([], slice_split p xs, slice_split-cons_yes p x xs on)
  | inr off ↦ let rest = first_part p xs in (x ∷ rest.0, rest.1, slice_split-cons_no p x xs off ∙ ap (onto_first x) rest.2)
]

-- a text with a colon has a second part
second_part : (xs : List ℕ) → list_any is_colon xs ≡ true → (part other : List ℕ) × (parts : List (List ℕ)) × (slice_split is_colon xs ≡ part ∷ (other ∷ parts))
second_part [] e = absurd (false≢true e)
second_part (x ∷ xs) e = elim (cases_Bool (is_colon x)) [
  | inl on ↦ let rest = first_part is_colon xs in ([], rest.0, rest.1, slice_split-cons_yes is_colon x xs on ∙ ap (λ (parts : List (List ℕ)). [] ∷ parts) rest.2)
  | inr off ↦
      let more : list_any is_colon xs ≡ true = rw off at e in
      let rest = second_part xs more in
      (x ∷ rest.0, rest.1, rest.2, slice_split-cons_no is_colon x xs off ∙ ap (onto_first x) rest.3)
]

-- ---- two numbers

no_digits : (text : List ℕ) → list_any is_colon text ≡ true → list_all (λ d. is_digit d 10) text ≡ false
no_digits [] has = absurd (false≢true has)
no_digits (c ∷ cs) has = elim (or_cases (is_colon c) (list_any is_colon cs) has) [
  | inl first ↦ and_left (is_digit c 10) (list_all (λ d. is_digit d 10) cs) (ap (λ (d : ℕ). is_digit d 10) (eqb-true c 58 first))
  | inr rest ↦ and_right (is_digit c 10) (list_all (λ d. is_digit d 10) cs) (no_digits cs rest)
]

-- a text with a colon isn't a number
pub no_number : (text : List ℕ) → list_any is_colon text ≡ true → number_in text ≡ None
no_number [] has = refl
no_number (c ∷ cs) has = rw (no_digits (c ∷ cs) has) refl

one_only : (o : Option ℕ) → both_of (o ∷ []) ≡ None
one_only None = refl
one_only (Some n) = refl

just_two : (a b : Option ℕ) → both_of (a ∷ (b ∷ [])) ≡ pair_of a b
just_two None b = refl
just_two (Some n) None = refl
just_two (Some n) (Some d) = refl

too_many : (a b c : Option ℕ) (rest : List (Option ℕ)) → both_of (a ∷ (b ∷ (c ∷ rest))) ≡ None
too_many None b c rest = refl
too_many (Some n) None c rest = refl
too_many (Some n) (Some d) c rest = refl

pair_none : (o : Option ℕ) → pair_of o None ≡ None
pair_none None = refl
pair_none (Some n) = refl

both_rest : (o : Option ℕ) (text : List ℕ) → both_of (o ∷ map number_in (slice_split is_colon text)) ≡ pair_of o (number_in text)
both_rest o text = by (list_any is_colon text) refl
  where
    by : (t : Bool) → list_any is_colon text ≡ t → both_of (o ∷ map number_in (slice_split is_colon text)) ≡ pair_of o (number_in text)
    by true has =
        let parts = second_part text has in
        rw (parts.3, no_number text has) (too_many o (number_in parts.0) (number_in parts.1) (map number_in parts.2) ∙ sym (pair_none o))
    by false none = rw (slice_split_none is_colon text (none_in is_colon text none)) (just_two o (number_in text))

pub numbers_around : {text before after : List ℕ} → IsAroundColon text before after → numbers_in text ≡ pair_of (number_in before) (number_in after)
numbers_around {text} {before} {after} a = ap (λ (parts : List (List ℕ)). both_of (map number_in parts)) (split_around a) ∙ both_rest (number_in before) after

pub numbers_none : (text : List ℕ) → HasNoColon text → numbers_in text ≡ None
numbers_none text none = rw (slice_split_none is_colon text (none_in is_colon text none)) (one_only (number_in text))

-- a text has a first colon, or none
pub first_colon : (xs : List ℕ) → (HasNoColon xs) ⊎ ((before after : List ℕ) × IsAroundColon xs before after)
first_colon xs = elim (cases_lt (place xs) (length xs)) [
  | inl less ↦ inr (take (place xs) xs, drop (place xs + 1) xs, around_here xs (place xs) (rw (lt-ltb (place xs) (length xs) less) refl))
  | inr more ↦ inl (none_here xs (rw (le-ltb (place xs) (length xs) more) refl))
]
