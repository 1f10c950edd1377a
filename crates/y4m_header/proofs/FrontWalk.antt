-- Pieces of a text that goes on.
use Rattle.std.proofs.Common.{◌≡◌, ℕ, ◌+◌, ◌<◌, Bool, true, false, nat_lt, Option, Some, None, List, [], ◌∷◌, ◌++◌, length, drop, get_or, refl, sym, ap, ◌∙◌, subst, inl, inr, is_some}
use Rattle.std.specs.Prelude.{fold}
use Rattle.std.specs.List.{cons_option, list_all, slice_split, onto_first}
use Rattle.std.proofs.lemmas.Bool.{cases_Bool, and_parts, and_cases, false≢true}
use Rattle.std.proofs.lemmas.List.{drop_more}
use Rattle.std.proofs.lemmas.List.Folds.{list_all-append}
use Rattle.std.proofs.lemmas.List.Splits.{slice_split-cons_yes, slice_split-cons_no, slice_split_at}
use Rattle.av_base.specs.declared.formats.PixelFormat.{PixelFormat}
use Rattle.av_base.specs.declared.formats.PixelFormat.TheVariants.{Gray, Yuv420p, Yuv422p, Yuv444p, Yuva420p, Yuva422p, Yuva444p}
use Rattle.y4m_header.specs.Front.{Completes, GoesOn, is_whole, are_ordered}
use Rattle.y4m_header.specs.Params.{Param, params_in, is_space, is_letter, is_good, side_in}
use Rattle.y4m_header.specs.Said.{said_in, fits, is_sized}
use Rattle.y4m_header.specs.Walk.{param, unsaid, said_after, said_of, outcome, with_gap}
use Rattle.y4m_header.specs.declared.params.Latest.{Latest}
use Rattle.y4m_header.proofs.ColonLemmas.{first_part}
use Rattle.y4m_header.proofs.SaidLemmas.{good_of, order_of, order_some}
use Rattle.y4m_header.proofs.WalkLemmas.{outcome_not, outcome_bad}
use Rattle.y4m_header.proofs.WrittenLemmas.{lower, no_space}

-- ---- pieces that are joined

-- the last piece goes on with the first of the others
abbrev pub glue : List (List ℕ) → List (List ℕ) → List (List ℕ)
glue [] others = others
glue (a ∷ []) [] = a ∷ []
glue (a ∷ []) (b ∷ others) = (a ++ b) ∷ others
glue (a ∷ (b ∷ pieces)) others = a ∷ glue (b ∷ pieces) others

onto_glue : (x : ℕ) (a : List ℕ) (pieces others : List (List ℕ)) → onto_first x (glue (a ∷ pieces) others) ≡ glue ((x ∷ a) ∷ pieces) others
onto_glue x a [] [] = refl
onto_glue x a [] (b ∷ others) = refl
onto_glue x a (c ∷ pieces) others = refl

pub split_append : (p : ℕ → Bool) (xs ys : List ℕ) → slice_split p (xs ++ ys) ≡ glue (slice_split p xs) (slice_split p ys)
split_append p [] ys = let part = first_part p ys in rw part.2 refl
split_append p (x ∷ xs) ys =
    let part = first_part p xs in
    let others = slice_split p ys in
    let rest = split_append p xs ys in
    let joined : slice_split p (xs ++ ys) ≡ glue (part.0 ∷ part.1) others = rest ∙ ap (λ (ps : List (List ℕ)). glue ps others) part.2 in
    elim (cases_Bool (p x)) [
      | inl on ↦
          slice_split-cons_yes p x (xs ++ ys) on
          ∙ (ap (λ (ps : List (List ℕ)). [] ∷ ps) joined ∙ ap (λ (ps : List (List ℕ)). glue ps others) (sym (slice_split-cons_yes p x xs on ∙ ap (λ (ps : List (List ℕ)). [] ∷ ps) part.2)))
      | inr off ↦
          slice_split-cons_no p x (xs ++ ys) off
          ∙ (ap (onto_first x) joined
          ∙ (onto_glue x part.0 part.1 others ∙ ap (λ (ps : List (List ℕ)). glue ps others) (sym (slice_split-cons_no p x xs off ∙ ap (onto_first x) part.2))))
    ]

glue_first : (a : List ℕ) (pieces others : List (List ℕ)) → (part : List ℕ) × (parts : List (List ℕ)) × (glue (a ∷ pieces) others ≡ part ∷ parts)
glue_first a [] [] = (a, [], refl)
glue_first a [] (b ∷ others) = (a ++ b, others, refl)
glue_first a (c ∷ pieces) others = (a, glue (c ∷ pieces) others, refl)

-- ---- whole pieces

whole_not : (s : Latest) (piece : List ℕ) → is_whole piece ≡ false → (rest : List (List ℕ)) → outcome s (piece ∷ rest) ≡ None
whole_not s [] e rest = absurd (false≢true (sym e))
whole_not s (c ∷ value) e rest = elim (and_cases (is_letter c) (is_good (param c value)) e) [
  | inl not_letter ↦ outcome_not s c value not_letter rest
  | inr bad ↦ outcome_bad s c value bad rest
]

-- a width and a height of 1
abbrev pub small_size : List ℕ
small_size = 32 ∷ (87 ∷ (49 ∷ (32 ∷ (72 ∷ (49 ∷ [])))))

abbrev size_pieces : List (List ℕ)
size_pieces = (87 ∷ (49 ∷ [])) ∷ ((72 ∷ (49 ∷ [])) ∷ [])

abbrev size_params : List Param
size_params = param 87 (49 ∷ []) ∷ (param 72 (49 ∷ []) ∷ [])

-- a picture of one sample isn't too large
one_fits : (o : Option PixelFormat) → fits o 1 1 ≡ true
one_fits None = refl
one_fits (Some Gray) = refl
one_fits (Some Yuv420p) = refl
one_fits (Some Yuv422p) = refl
one_fits (Some Yuv444p) = refl
one_fits (Some Yuva420p) = refl
one_fits (Some Yuva422p) = refl
one_fits (Some Yuva444p) = refl

last_one : (without : ℕ) (o : Option ℕ) → fold (λ old new. new) without (cons_option o (1 ∷ [])) ≡ 1
last_one without None = refl
last_one without (Some n) = refl

one_sized : (t : Latest) → t.width ≡ 1 → t.height ≡ 1 → is_sized (said_of t) ≡ true
one_sized t wide high = rw (wide, high) (one_fits t.colour)

abbrev EndsWell : Latest → List (List ℕ) → Type 0
EndsWell s pieces = (t : Latest) × (outcome s pieces ≡ Some t) × (is_sized (said_of t) ≡ true)

whole_ends : (s : Latest) (piece : List ℕ) → is_whole piece ≡ true → EndsWell s (piece ∷ size_pieces)
whole_ends s [] e = let t : Latest = said_after s size_params in (t, refl, one_sized t refl refl)
whole_ends s (c ∷ value) e =
    let p : Param = param c value in
    let parts = and_parts (is_letter c) (is_good p) e in
    let t : Latest = said_after s (p ∷ size_params) in
    (t, rw (parts.0) (rw (parts.1) refl), one_sized t (last_one s.width (said_in side_in 87 p)) (last_one s.height (said_in side_in 72 p)))

-- ---- the walk

-- what the walk over the pieces keeps, however the last piece goes on: `last` wasn't put to the others yet
pub record Walks (s : Latest) (last : List ℕ) (rest pieces : List (List ℕ)) : Type 0 where
  pub walk : (others : List (List ℕ)) → outcome s (glue (last ∷ rest) others) ≡ outcome unsaid (glue pieces others)

skip_gap : (t : Bool) (s : Latest) (a : List ℕ) (pieces others : List (List ℕ)) → outcome s (with_gap t (glue (a ∷ pieces) others)) ≡ outcome s (glue (a ∷ pieces) others)
skip_gap true s a pieces others = let first = glue_first a pieces others in rw first.2 refl
skip_gap false s a pieces others = refl

pub walk_start : (text : List ℕ) → Walks unsaid [] (slice_split is_space text) (slice_split is_space text)
walk_start text =
    let first = first_part is_space text in
    subst (λ (ps : List (List ℕ)). Walks unsaid [] ps ps) (sym first.2) (record { walk = λ others. skip_gap true unsaid first.0 first.1 others })

pub walk_turn : {s : Latest} {last : List ℕ} (pieces : List (List ℕ)) (n : ℕ) (piece : List ℕ) → Walks s last (drop n pieces) pieces → (n < length pieces) × (piece ≡ get_or pieces n piece)
    → Walks s last (piece ∷ drop (n + 1) pieces) pieces
walk_turn {s} {last} pieces n piece walks at =
    let here : drop n pieces ≡ piece ∷ drop (n + 1) pieces = drop_more pieces n piece at.0 ∙ ap (λ (x : List ℕ). x ∷ drop (n + 1) pieces) (sym at.1) in
    subst (λ (rest : List (List ℕ)). Walks s last rest pieces) here walks

pub walk_next : {s : Latest} {last piece : List ℕ} {rest pieces : List (List ℕ)} (new : Latest) (t : Bool) → Walks s last (piece ∷ rest) pieces → ((rest : List (List ℕ)) → outcome new (with_gap t rest) ≡ outcome s (last ∷ rest))
    → Walks new piece rest pieces
walk_next {s} {last} {piece} {rest} {pieces} new t walks next = record { walk = λ others. sym (skip_gap t new piece rest others) ∙ (next (glue (piece ∷ rest) others) ∙ walks.walk others) }

-- ---- the end

order_none : (o : Option (List Param)) → good_of o ≡ None → order_of o ≡ None
order_none None e = refl
order_none (Some params) e = elim (cases_Bool (list_all is_good params)) [
  | inl on ↦ let never : Some (said_after unsaid params) ≡ None = sym (rw on refl) ∙ e in absurd (cc)
  | inr off ↦ rw off refl
]

unordered : (text : List ℕ) → outcome unsaid (slice_split is_space text) ≡ None → are_ordered text ≡ false
unordered text e = ap is_some (order_none (params_in (slice_split is_space text)) e)

ordered_text : (text : List ℕ) → EndsWell unsaid (slice_split is_space text) → are_ordered text ≡ true
ordered_text text w =
    let found = order_some (params_in (slice_split is_space text)) w.0 (sym w.1) w.2 in
    ap is_some found.1

pub walk_stops : {s : Latest} {last piece : List ℕ} {rest : List (List ℕ)} (text : List ℕ) → Walks s last (piece ∷ rest) (slice_split is_space text) → ((rest : List (List ℕ)) → outcome s (last ∷ rest) ≡ None)
    → (more : List ℕ) → are_ordered (text ++ more) ≡ false
walk_stops {s} {last} {piece} {rest} text walks none more =
    let others = slice_split is_space more in
    unordered (text ++ more) (ap (outcome unsaid) (split_append is_space text more) ∙ (sym (walks.walk others) ∙ none (glue (piece ∷ rest) others)))

last_stops : {s : Latest} {last : List ℕ} (text : List ℕ) → Walks s last [] (slice_split is_space text) → ((more : List ℕ) → is_whole (last ++ more) ≡ false) → (more : List ℕ) → are_ordered (text ++ more) ≡ false
last_stops {s} {last} text walks bad more =
    let first = first_part is_space more in
    let here : outcome s (glue (last ∷ []) (slice_split is_space more)) ≡ None = rw first.2 (whole_not s (last ++ first.0) (bad first.0) first.1) in
    unordered (text ++ more) (ap (outcome unsaid) (split_append is_space text more) ∙ (sym (walks.walk (slice_split is_space more)) ∙ here))

last_goes : {s : Latest} {last : List ℕ} (text : List ℕ) → Walks s last [] (slice_split is_space text) → Completes 32 is_whole last → Completes 10 are_ordered text
last_goes {s} {last} text walks h =
    let pieces : slice_split is_space (h.more ++ small_size) ≡ h.more ∷ size_pieces = slice_split_at is_space h.more 32 (drop 1 small_size) (no_space h.more h.above) refl in
    let ends = whole_ends s (last ++ h.more) h.passes in
    let all : outcome unsaid (slice_split is_space (text ++ (h.more ++ small_size))) ≡ Some ends.0 =
    ap (outcome unsaid) (split_append is_space text (h.more ++ small_size))
    ∙ (sym (walks.walk (slice_split is_space (h.more ++ small_size))) ∙ (ap (λ (others : List (List ℕ)). outcome s (glue (last ∷ []) others)) pieces ∙ ends.1)) in
    record {
      more = h.more ++ small_size;
      above = list_all-append (nat_lt 10) h.more small_size ∙ rw (lower h.more h.above) refl;
      passes = ordered_text (text ++ (h.more ++ small_size)) (ends.0, all, ends.2);
    }

pub walk_ends : {s : Latest} {last : List ℕ} (text : List ℕ) (t : Bool) → Walks s last [] (slice_split is_space text) → GoesOn 32 is_whole last t → GoesOn 10 are_ordered text t
walk_ends text true walks h = last_goes text walks h
walk_ends text false walks h = last_stops text walks h
