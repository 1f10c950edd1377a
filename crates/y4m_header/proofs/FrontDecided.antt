-- The beginning of a line has a fault whatever follows, or none.
use Rattle.std.proofs.Common.{◌≡◌, ◌≢◌, ℕ, ◌&&◌, ◌⊎◌, Bool, true, false, eqb, leb, Option, Some, None, List, [], ◌∷◌, ◌++◌, take, drop, length, refl, sym, subst, arith, inl, inr, is_some, nat_eq}
use Rattle.std.specs.Prelude.{fold, filter_map}
use Rattle.std.specs.List.{cons_option, list_all, slice_split}
use Rattle.std.specs.Cmp.Lexicographic.{pointwise}
use Rattle.std.proofs.lemmas.Bool.{cases_Bool, cases_eq, ne_eqb}
use Rattle.y4m_header.specs.Front.{GoesOn, has_value, is_whole, is_ordered, are_ordered}
use Rattle.y4m_header.specs.Params.{Param, is_space, is_letter, is_good, is_known, side_in, rate_in, aspect_in, scan_in, colour_in}
use Rattle.y4m_header.specs.Parts.{digits_from, small_in, IsAroundColon}
use Rattle.y4m_header.specs.Said.{magic, said_in, latest, StandsAlways}
use Rattle.y4m_header.specs.Walk.{param, unsaid, said_after, IsSet, outcome, with_gap}
use Rattle.y4m_header.specs.declared.fault.HeaderFault.{HeaderFault}
use Rattle.y4m_header.specs.declared.fault.HeaderFault.TheVariants.{NotMedia, BadHeader}
use Rattle.y4m_header.specs.declared.params.Latest.{Latest}
use Rattle.y4m_header.proofs.ColonLemmas.{first_colon}
use Rattle.y4m_header.proofs.FrontLemmas.{nothing_goes, params_go, begun_none, rest_none, rest_fault, media_fault}
use Rattle.y4m_header.proofs.FrontValues.{side_goes, side_stops, rate_before, rate_stop_num, rate_stop_den, rate_moves, rate_stays, aspect_before, aspect_num, aspect_after, scan_empty, scan_goes}
use Rattle.y4m_header.proofs.FrontWalk.{Walks, walk_start, walk_next, walk_stops, walk_ends}
use Rattle.y4m_header.proofs.PrefixLemmas.{prefix_found, prefix_none}
use Rattle.y4m_header.proofs.WalkLemmas.{outcome_not, outcome_bad, outcome_set}

-- a text goes on to one that passes a test, or it doesn't
abbrev Decided : ℕ → (List ℕ → Bool) → List ℕ → Type 0
Decided code test text = (t : Bool) × GoesOn code test text t

-- ---- values

side_by : (v : List ℕ) (o : Option ℕ) → o ≡ digits_from 0 v → Decided 32 (λ v. is_some (side_in v)) v
side_by v None e = (false, side_stops v e)
side_by v (Some n) e = (leb n 8192, side_goes v n e)

rate_by : {v a b : List ℕ} (o p : Option ℕ) → IsAroundColon v a b → o ≡ small_in a → p ≡ digits_from 0 b → Decided 32 (λ v. is_some (rate_in v)) v
rate_by None p is e f = (false, rate_stop_num is e)
rate_by (Some n) None is e f = (false, rate_stop_den is f)
rate_by (Some n) (Some d) is e f = elim (cases_eq n 0) [
  | inl none ↦ (eqb d 0, rate_stays n d is e f none)
  | inr some ↦ (true, rate_moves n d is e f (omega arith))
]

rate_decided : (v : List ℕ) → Decided 32 (λ v. is_some (rate_in v)) v
rate_decided v = elim (first_colon v) [
  | inl none ↦ (is_some (digits_from 0 v), rate_before v (digits_from 0 v) none refl)
  | inr found ↦ rate_by (small_in found.0) (digits_from 0 found.1) found.2 refl refl
]

aspect_by : {v a b : List ℕ} (o : Option ℕ) → IsAroundColon v a b → o ≡ small_in a → Decided 32 (λ v. is_some (aspect_in v)) v
aspect_by None is e = (false, aspect_num is e)
aspect_by {v} {a} {b} (Some n) is e = (is_some (digits_from 0 b), aspect_after n (digits_from 0 b) is e refl)

aspect_decided : (v : List ℕ) → Decided 32 (λ v. is_some (aspect_in v)) v
aspect_decided v = elim (first_colon v) [
  | inl none ↦ (is_some (digits_from 0 v), aspect_before v (digits_from 0 v) none refl)
  | inr found ↦ aspect_by (small_in found.0) found.2 refl
]

scan_decided : (v : List ℕ) → Decided 32 (λ v. is_some (scan_in v)) v
scan_decided [] = (true, scan_empty)
scan_decided (c ∷ cs) = (is_some (scan_in (c ∷ cs)), scan_goes (c ∷ cs) (omega arith))

any_value : (letter : ℕ) (v : List ℕ) → letter ≢ 87 → letter ≢ 72 → letter ≢ 70 → letter ≢ 73 → letter ≢ 65 → has_value letter v ≡ true
any_value letter v w h f i a = simp (ne_eqb letter 87 w, ne_eqb letter 72 h, ne_eqb letter 70 f, ne_eqb letter 73 i, ne_eqb letter 65 a)

value_decided : (letter : ℕ) (v : List ℕ) → Decided 32 (has_value letter) v
value_decided letter v = elim (cases_eq letter 87) [
  | inl w ↦ subst (λ (l : ℕ). Decided 32 (has_value l) v) (sym w) (side_by v (digits_from 0 v) refl)
  | inr not_w ↦ elim (cases_eq letter 72) [
    | inl h ↦ subst (λ (l : ℕ). Decided 32 (has_value l) v) (sym h) (side_by v (digits_from 0 v) refl)
    | inr not_h ↦ elim (cases_eq letter 70) [
      | inl f ↦ subst (λ (l : ℕ). Decided 32 (has_value l) v) (sym f) (rate_decided v)
      | inr not_f ↦ elim (cases_eq letter 73) [
        | inl i ↦ subst (λ (l : ℕ). Decided 32 (has_value l) v) (sym i) (scan_decided v)
        | inr not_i ↦ elim (cases_eq letter 65) [
          | inl a ↦ subst (λ (l : ℕ). Decided 32 (has_value l) v) (sym a) (aspect_decided v)
          | inr not_a ↦ (true, record { more = []; above = refl; passes = any_value letter (v ++ []) not_w not_h not_f not_i not_a })
        ]
      ]
    ]
  ]
]

-- ---- pieces

letter_goes : (c : ℕ) (value : List ℕ) (t : Bool) → is_letter c ≡ true → GoesOn 32 (has_value c) value t → GoesOn 32 is_whole (c ∷ value) t
letter_goes c value true on h = record { more = h.more; above = h.above; passes = rw on (h.passes) }
letter_goes c value false on h = λ more. rw on (h more)

piece_decided : (piece : List ℕ) → Decided 32 is_whole piece
piece_decided [] = (true, record { more = []; above = refl; passes = refl })
piece_decided (c ∷ value) = elim (cases_Bool (is_letter c)) [
  | inl on ↦ let h = value_decided c value in (h.0, letter_goes c value h.0 on h.1)
  | inr off ↦ (false, λ more. rw off refl)
]

-- one parameter that is put to what holds already
again : {T : Type 0} (o : Option T) (without : T) (values : List T) → fold (λ old new. new) (fold (λ old new. new) without (cons_option o [])) values ≡ fold (λ old new. new) without (cons_option o values)
again None without values = refl
again (Some x) without values = refl

latest_again : {T : Type 0} (read : List ℕ → Option T) (letter : ℕ) (without : T) (p : Param) (params : List Param) → latest (latest without read letter (p ∷ [])) read letter params ≡ latest without read letter (p ∷ params)
latest_again read letter without p params = again (said_in read letter p) without (filter_map (said_in read letter) params)

named_again : (rest here old : Bool) → (rest && ((here && true) && old)) ≡ ((here && rest) && old)
named_again true true old = refl
named_again true false old = refl
named_again false true old = refl
named_again false false old = refl

set_again : (s : Latest) (p : Param) → is_good p ≡ true → IsSet s p (said_after s (p ∷ []))
set_again s p good = record {
  good = good;
  after = λ params.
      let width = latest_again side_in 87 s.width p params in
      let height = latest_again side_in 72 s.height p params in
      let rate = latest_again rate_in 70 s.rate p params in
      let aspect = latest_again aspect_in 65 s.aspect p params in
      let scan = latest_again scan_in 73 s.scan p params in
      let colour = latest_again (λ value. Some (colour_in value)) 67 s.colour p params in
      let named = named_again (list_all is_known params) (is_known p) s.named in
      cc;
}

-- what holds after a piece, or nothing if it isn't in order
abbrev Put : Latest → List ℕ → Type 0
Put s piece = (new : Latest) × (gap : Bool) × ((rest : List (List ℕ)) → outcome new (with_gap gap rest) ≡ outcome s (piece ∷ rest))

put_decided : (s : Latest) (piece : List ℕ) → Put s piece ⊎ ((rest : List (List ℕ)) → outcome s (piece ∷ rest) ≡ None)
put_decided s [] = inl (s, true, λ rest. refl)
put_decided s (c ∷ value) = elim (cases_Bool (is_letter c)) [
  | inr off ↦ inr (outcome_not s c value off)
  | inl on ↦ elim (cases_Bool (is_good (param c value))) [
    | inr bad ↦ inr (outcome_bad s c value bad)
    | inl good ↦ let new : Latest = said_after s (param c value ∷ []) in inl (new, false, outcome_set s new c value on (set_again s (param c value) good))
  ]
]

walk_decided : (text : List ℕ) (s : Latest) (last : List ℕ) (rest : List (List ℕ)) → Walks s last rest (slice_split is_space text) → Decided 10 are_ordered text
walk_decided text s last [] walks = let h = piece_decided last in (h.0, walk_ends text h.0 walks h.1)
walk_decided text s last (piece ∷ rest) walks = elim (put_decided s last) [
  | inr none ↦ (false, walk_stops text walks none)
  | inl put ↦ walk_decided text put.0 piece rest (walk_next put.0 put.1 walks put.2)
]

rest_decided : (rest : List ℕ) → Decided 10 is_ordered rest
rest_decided [] = (true, nothing_goes)
rest_decided (c ∷ text) = elim (cases_eq c 32) [
  | inl space ↦
      let h = walk_decided text unsaid [] (slice_split is_space text) (walk_start text) in
      subst (λ (b : ℕ). Decided 10 is_ordered (b ∷ text)) (sym space) (h.0, params_go text h.0 h.1)
  | inr other ↦ (false, λ more. rw (ne_eqb c 32 other) refl)
]

-- ---- the front

-- a text begins with a prefix, or it doesn't
begins_decided : (prefix text : List ℕ) → ((rest : List ℕ) × (text ≡ prefix ++ rest)) ⊎ ((rest : List ℕ) → text ≡ prefix ++ rest → ⊥)
begins_decided prefix text = elim (cases_Bool (pointwise nat_eq (take (length prefix) text) prefix)) [
  | inl on ↦ inl (drop (length prefix) text, prefix_found text prefix (drop (length prefix) text) on refl)
  | inr off ↦ inr (λ rest. prefix_none text prefix rest off)
]

rest_by : {front rest : List ℕ} (t : Bool) → front ≡ magic ++ rest → GoesOn 10 is_ordered rest t → ((e : HeaderFault) × StandsAlways front e) ⊎ ((e : HeaderFault) → ¬ StandsAlways front e)
rest_by true is h = inr (rest_none is h)
rest_by false is h = inl (BadHeader, rest_fault is h)

pub always_decided : (front : List ℕ) → ((e : HeaderFault) × StandsAlways front e) ⊎ ((e : HeaderFault) → ¬ StandsAlways front e)
always_decided front = elim (begins_decided magic front) [
  | inl begins ↦ let h = rest_decided begins.0 in rest_by h.0 begins.1 h.1
  | inr longer ↦ elim (begins_decided front magic) [
    | inl begun ↦ inr (begun_none front begun.0 begun.1)
    | inr shorter ↦ inl (NotMedia, media_fault front longer shorter)
  ]
]
