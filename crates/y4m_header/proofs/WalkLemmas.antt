-- Parameters one after another.
use Rattle.std.proofs.Common.{◌≡◌, ℕ, ◌+◌, ◌<◌, ◌&&◌, Bool, true, false, eqb, Option, Some, None, List, [], ◌∷◌, length, drop, get_or, refl, sym, ap, ◌∙◌, inl, inr, is_some}
use Rattle.std.specs.Prelude.{option_and_then, option_map, if◌then◌else◌}
use Rattle.std.specs.List.{list_all}
use Rattle.std.proofs.lemmas.Bool.{cases_Bool}
use Rattle.std.proofs.lemmas.List.{at_drop_more}
use Rattle.av_base.specs.declared.formats.PixelFormat.{PixelFormat}
use Rattle.y4m_header.specs.Params.{Param, params_in, is_letter, is_good, is_known, side_in, rate_in, aspect_in, scan_in, colour_in}
use Rattle.y4m_header.specs.Walk.{param, said_after, IsSet, outcome, with_gap}
use Rattle.y4m_header.specs.declared.params.Latest.{Latest}

-- ---- one parameter

pub set_width : (s : Latest) (value : List ℕ) (n : ℕ) → Some n ≡ side_in value → IsSet s (param 87 value) (record s { width = n })
set_width s value n e = record { good = rw (← e) refl; after = λ ps. rw (← e) refl }

pub set_height : (s : Latest) (value : List ℕ) (n : ℕ) → Some n ≡ side_in value → IsSet s (param 72 value) (record s { height = n })
set_height s value n e = record { good = rw (← e) refl; after = λ ps. rw (← e) refl }

pub set_rate : (s : Latest) (value : List ℕ) (n : ℕ × ℕ) → Some n ≡ rate_in value → IsSet s (param 70 value) (record s { rate = n })
set_rate s value n e = record { good = rw (← e) refl; after = λ ps. rw (← e) refl }

pub set_scan : (s : Latest) (value : List ℕ) (n : ℕ) → Some n ≡ scan_in value → IsSet s (param 73 value) (record s { scan = n })
set_scan s value n e = record { good = rw (← e) refl; after = λ ps. rw (← e) refl }

pub set_aspect : (s : Latest) (value : List ℕ) (n : ℕ × ℕ) → Some n ≡ aspect_in value → IsSet s (param 65 value) (record s { aspect = n })
set_aspect s value n e = record { good = rw (← e) refl; after = λ ps. rw (← e) refl }

named_more : (rest old new : Bool) → (rest && (old && new)) ≡ ((new && rest) && old)
named_more true true true = refl
named_more true true false = refl
named_more true false true = refl
named_more true false false = refl
named_more false true true = refl
named_more false true false = refl
named_more false false true = refl
named_more false false false = refl

pub set_colour : (s : Latest) (value : List ℕ) (o : Option PixelFormat) → o ≡ colour_in value → IsSet s (param 67 value) (record s { colour = o; named = s.named && is_some o })
set_colour s value o e = record {
  good = refl;
  after = λ ps. rw (← e) (ap (λ (b : Bool). record (said_after (record s { colour = o; named = true }) ps) { named = b }) (named_more (list_all is_known ps) s.named (is_some o)));
}

pub set_other : (s : Latest) (letter : ℕ) (value : List ℕ) → eqb letter 87 ≡ false → eqb letter 72 ≡ false → eqb letter 70 ≡ false → eqb letter 73 ≡ false
    → eqb letter 65 ≡ false → eqb letter 67 ≡ false → IsSet s (param letter value) s
set_other s letter value w h f i a c = record { good = simp (w, h, f, i, a); after = λ ps. simp (w, h, f, i, a, c) }

-- ---- one piece

pub outcome_not : (s : Latest) (c : ℕ) (value : List ℕ) → is_letter c ≡ false → (rest : List (List ℕ)) → outcome s ((c ∷ value) ∷ rest) ≡ None
outcome_not s c value e rest = rw e refl

abbrev outcome_of : Latest → Option (List Param) → Option Latest
outcome_of s o = option_and_then (λ params. if list_all is_good params then Some (said_after s params) else None) o

bad_first : (s : Latest) (p : Param) (o : Option (List Param)) → is_good p ≡ false → outcome_of s (option_map (λ params. p ∷ params) o) ≡ None
bad_first s p None e = refl
bad_first s p (Some params) e = rw e refl

set_first : (s new : Latest) (p : Param) (o : Option (List Param)) → IsSet s p new → outcome_of new o ≡ outcome_of s (option_map (λ params. p ∷ params) o)
set_first s new p None is = refl
set_first s new p (Some params) is = rw (is.good) (ap (λ (a : Latest). if list_all is_good params then Some a else None) (is.after params))

pub outcome_bad : (s : Latest) (c : ℕ) (value : List ℕ) → is_good (param c value) ≡ false → (rest : List (List ℕ)) → outcome s ((c ∷ value) ∷ rest) ≡ None
outcome_bad s c value e rest = elim (cases_Bool (is_letter c)) [
  | inl on ↦ rw on (bad_first s (param c value) (params_in rest) e)
  | inr off ↦ rw off refl
]

pub outcome_set : (s new : Latest) (c : ℕ) (value : List ℕ) → is_letter c ≡ true → IsSet s (param c value) new → (rest : List (List ℕ)) → outcome new rest ≡ outcome s ((c ∷ value) ∷ rest)
outcome_set s new c value letter is rest = rw letter (set_first s new (param c value) (params_in rest) is)

-- a piece after an empty one or another
pub outcome_next : (s : Latest) (gap : Bool) (piece : List ℕ) (rest : List (List ℕ)) → outcome s (with_gap gap (piece ∷ rest)) ≡ outcome s (piece ∷ rest)
outcome_next s false piece rest = refl
outcome_next s true [] rest = refl
outcome_next s true (c ∷ cs) rest = refl

-- the end
pub outcome_end : (s : Latest) → outcome s [] ≡ Some s
outcome_end s = refl

-- the next of the pieces
pub outcome_turn : {whole : Option Latest} (s : Latest) (gap : Bool) (pieces : List (List ℕ)) (n : ℕ) (piece : List ℕ) → outcome s (with_gap gap (drop n pieces)) ≡ whole
    → (n < length pieces) × (piece ≡ get_or pieces n piece) → outcome s (piece ∷ drop (n + 1) pieces) ≡ whole
outcome_turn s gap pieces n piece e at =
    sym (outcome_next s gap piece (drop (n + 1) pieces))
    ∙ (ap (λ (x : List ℕ). outcome s (with_gap gap (x ∷ drop (n + 1) pieces))) at.1
    ∙ (sym (at_drop_more (λ (rest : List (List ℕ)). outcome s (with_gap gap rest)) pieces n piece at.0) ∙ e))

-- what follows it
pub outcome_more : {whole : Option Latest} (s new : Latest) (empty gap : Bool) (pieces : List (List ℕ)) (n m : ℕ) (piece : List ℕ) → outcome s (piece ∷ drop (n + 1) pieces) ≡ whole
    → ((rest : List (List ℕ)) → outcome new (with_gap empty rest) ≡ outcome s (piece ∷ rest)) → gap ≡ empty → m ≡ n + 1 → outcome new (with_gap gap (drop m pieces)) ≡ whole
outcome_more s new empty gap pieces n m piece e next is at = rw (is, at) (next (drop (n + 1) pieces) ∙ e)
