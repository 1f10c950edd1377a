-- Rows of pieces, read one byte after another.
use Rattle.std.proofs.Common.{◌≡◌, ◌≤◌, ◌+◌, ◌==◌, eqb, ℕ, Bool, true, false, List, [], ◌∷◌, ◌++◌, map, take, drop, length, get_or, refl, sym, ◌∙◌, ap, arith, inl, inr, append_assoc}
use Rattle.std.specs.List.{AllByRecursion, Contains, flat_map}
use Rattle.std.proofs.lemmas.List.{drop-drop, length-take-le}
use Rattle.std.proofs.lemmas.Bool.{cases_Bool}
use Rattle.std.proofs.lemmas.Bool.Decides.{Decides-eqb}
use Rattle.std.proofs.lemmas.Slice.Eq.{starts_is}
use Rattle.std.specs.Cmp.Lexicographic.{pointwise}
use Rattle.av_text.specs.Classes.{is_white, IsRun}
use Rattle.av_text.specs.Tokens.{Piece, Plain, Escaped, Quoted, source, meaning, IsPiece, is_blank, put_before, trimmed, IsRow, Ends, IsToken}
use Rattle.av_text.specs.Faults.{IsBroken, IsTokenFault}
use Rattle.av_text.specs.declared.fault.TextKind.{TextKind}
use Rattle.av_text.specs.SlowRows.{BeginsRow, Says}
use Rattle.av_text.proofs.Runs.{all_append}
use Rattle.av_text.proofs.TokenLemmas.{plain_sources}

-- ---- the piece at the front of a text

front_is : (text : List ℕ) → 1 ≤ length text → text ≡ get_or text 0 0 ∷ drop 1 text
front_is [] some = absurd (omega arith)
front_is (c ∷ text) some = refl

escaped_is : (text : List ℕ) → 2 ≤ length text → get_or text 0 0 ≡ 92 → text ≡ source (Escaped (get_or text 1 0)) ++ drop 2 text
escaped_is [] some e = absurd (omega arith)
escaped_is (c ∷ []) some e = absurd (omega arith)
escaped_is (c ∷ d ∷ text) some e = ap (λ (b : ℕ). b ∷ d ∷ text) e

quoted_is : (text : List ℕ) (n : ℕ) → 1 ≤ length text → get_or text 0 0 ≡ 39 → drop 1 text ≡ take n (drop 1 text) ++ 39 ∷ drop (n + 1) (drop 1 text)
    → text ≡ source (Quoted (take n (drop 1 text))) ++ drop (n + 1) (drop 1 text)
quoted_is text n some e split =
    front_is text some ∙ (ap (λ (b : ℕ). b ∷ drop 1 text) e ∙ ap (λ (xs : List ℕ). 39 ∷ xs)
    (split ∙ sym (append_assoc (take n (drop 1 text)) (39 ∷ []) (drop (n + 1) (drop 1 text)))))

pub two_from_test : (text : List ℕ) (b : Bool) → b ≡ (length (drop 1 text) == 0) → b ≡ false → 2 ≤ length text
two_from_test [] b e some = cc
two_from_test (c ∷ []) b e some = cc
two_from_test (c ∷ d ∷ text) b e some = omega arith

-- ---- one piece more of a row

row_more : {specials text rest : List ℕ} (p : Piece) (behind : List ℕ) → IsPiece specials p → text ≡ source p ++ behind → BeginsRow specials behind rest → BeginsRow specials text rest
row_more {specials} {text} {rest} p behind is e r = record {
  row = p ∷ r.row;
  each = (is, r.each);
  text_is = e ∙ ap (λ (t : List ℕ). source p ++ t) r.text_is ∙ sym (append_assoc (source p) (flat_map source r.row) rest);
}

pub plain_row : (specials text : List ℕ) (place : ℕ) (rest : List ℕ) → 1 ≤ length (drop place text) → IsPiece specials (Plain (get_or (drop place text) 0 0)) → BeginsRow specials (drop (place + 1) text) rest → BeginsRow specials (drop place text) rest
plain_row specials text place rest some is r = row_more (Plain (get_or (drop place text) 0 0)) (drop 1 (drop place text)) is (front_is (drop place text) some) (rw drop-drop r)

pub escaped_row : (specials text : List ℕ) (place : ℕ) (rest : List ℕ) → 2 ≤ length (drop place text) → get_or (drop place text) 0 0 ≡ 92 → BeginsRow specials (drop (place + 2) text) rest → BeginsRow specials (drop place text) rest
escaped_row specials text place rest some e r = row_more (Escaped (get_or (drop place text) 1 0)) (drop 2 (drop place text)) tt (escaped_is (drop place text) some e) (rw drop-drop r)

pub quoted_row : (specials text : List ℕ) (place n : ℕ) (rest : List ℕ) → 1 ≤ length (drop place text) → get_or (drop place text) 0 0 ≡ 39
    → drop 1 (drop place text) ≡ take n (drop 1 (drop place text)) ++ 39 ∷ drop (n + 1) (drop 1 (drop place text)) → ¬ Contains (take n (drop 1 (drop place text))) 39
    → BeginsRow specials (drop (place + n + 2) text) rest → BeginsRow specials (drop place text) rest
quoted_row specials text place n rest some e split none r =
    let at : drop (place + n + 2) text ≡ drop (n + 1) (drop 1 (drop place text)) =
    ap (λ (k : ℕ). drop k text) (omega arith) ∙ (sym (drop-drop (n + 1) (place + 1) text) ∙ ap (drop (n + 1)) (sym (drop-drop 1 place text))) in
    row_more (Quoted (take n (drop 1 (drop place text)))) (drop (n + 1) (drop 1 (drop place text))) none (quoted_is (drop place text) n some e split) (rw at at r)

-- ---- a row after white space

row_is : {specials text rest : List ℕ} (lead : ℕ) → IsRun is_white text (take lead text) (drop lead text) → (r : BeginsRow specials (drop lead text) rest) → IsRow specials text r.row rest
row_is {specials} {text} {rest} lead run r = record { lead = take lead text; begins = rw r.text_is at run; each = r.each }

pub token_is : {specials text rest : List ℕ} (lead : ℕ) → IsRun is_white text (take lead text) (drop lead text) → BeginsRow specials (drop lead text) rest → Ends specials rest
    → (value : List ℕ) × IsToken specials text value rest
token_is lead run r ends = (flat_map meaning (trimmed r.row), record { row = r.row; is_row = row_is lead run r; ends = ends; value_is = refl })

pub fault_is : {specials text rest : List ℕ} (lead : ℕ) (kind : TextKind) → IsRun is_white text (take lead text) (drop lead text) → BeginsRow specials (drop lead text) rest → IsBroken kind rest
    → IsTokenFault specials text kind rest
fault_is lead kind run r broken = record { row = r.row; is_row = row_is lead run r; broken = broken }

-- ---- plain white space says nothing

abbrev AllWhite : List ℕ → Type 0
AllWhite xs = AllByRecursion (λ (c : ℕ). is_white c ≡ true) xs

white_piece : (c : ℕ) → is_white c ≡ true → IsPiece [] (Plain c)
white_piece c white = (λ e. (let h = rw e at white in cc), λ e. (let h = rw e at white in cc), λ h. omega (arith, h.1))

white_pieces : (xs : List ℕ) → AllWhite xs → AllByRecursion (IsPiece []) (map Plain xs)
white_pieces [] a = tt
white_pieces (x ∷ xs) a = (white_piece x a.0, white_pieces xs a.1)

white_trimmed : (xs : List ℕ) → AllWhite xs → trimmed (map Plain xs) ≡ []
white_trimmed [] a = refl
white_trimmed (x ∷ xs) a = ap (put_before (Plain x)) (white_trimmed xs a.1) ∙ rw a.0 refl

pub white_says : (text value : List ℕ) → AllWhite text → length value ≡ 0 → Says text value
white_says text [] a none = record {
  row = map Plain text;
  each = white_pieces text a;
  text_is = sym (plain_sources text);
  value_is = ap (flat_map meaning) (sym (white_trimmed text a));
}
white_says text (v ∷ value) a none = absurd (omega arith)

put_nothing : (p : Piece) (ps : List Piece) → put_before p ps ≡ [] → (is_blank p ≡ true) × (ps ≡ [])
put_nothing p [] e = elim (cases_Bool (is_blank p)) [ inl blank ↦ (blank, refl) | inr solid ↦ (let h = rw solid at e in cc) ]
put_nothing p (q ∷ ps) e = cc

blank_source : (p : Piece) → is_blank p ≡ true → AllWhite (source p)
blank_source (Plain c) e = (e, tt)
blank_source (Escaped c) e = cc
blank_source (Quoted text) e = cc

-- what says nothing is plain white space
trimmed_none : (ps : List Piece) → trimmed ps ≡ [] → AllWhite (flat_map source ps)
trimmed_none [] e = tt
trimmed_none (p ∷ ps) e =
    let h = put_nothing p (trimmed ps) e in
    all_append (λ (c : ℕ). is_white c ≡ true) (source p) (flat_map source ps) (blank_source p h.0) (trimmed_none ps h.1)

-- ---- one piece more of what a row says

put_whole : (p : Piece) (ps : List Piece) → ((is_blank p ≡ true) → ps ≡ [] → ⊥) → put_before p ps ≡ p ∷ ps
put_whole p [] fine = elim (cases_Bool (is_blank p)) [ inl blank ↦ absurd (fine blank refl) | inr solid ↦ rw solid refl ]
put_whole p (q ∷ ps) fine = refl

says_more : {text value : List ℕ} (p : Piece) (behind said : List ℕ) → IsPiece [] p → ¬ AllWhite text → text ≡ source p ++ behind → value ≡ meaning p ++ said → Says behind said → Says text value
says_more {text} {value} p behind said is other e v s = record {
  row = p ∷ s.row;
  each = (is, s.each);
  text_is = e ∙ ap (λ (t : List ℕ). source p ++ t) s.text_is;
  value_is = v ∙ ap (λ (t : List ℕ). meaning p ++ t) s.value_is ∙ ap (flat_map meaning) (sym (put_whole p (trimmed s.row) fine));
} where
  fine : is_blank p ≡ true → trimmed s.row ≡ [] → ⊥
  fine blank none =
      let white = all_append (λ (c : ℕ). is_white c ≡ true) (source p) (flat_map source s.row) (blank_source p blank) (trimmed_none s.row none) in
      other (rw (e, s.text_is) white)

pub plain_says : (text value : List ℕ) → 1 ≤ length text → ¬ AllWhite text → IsPiece [] (Plain (get_or text 0 0)) → value ≡ get_or text 0 0 ∷ drop 1 value → Says (drop 1 text) (drop 1 value) → Says text value
plain_says text value some other is v s = says_more (Plain (get_or text 0 0)) (drop 1 text) (drop 1 value) is other (front_is text some) v s

pub escaped_says : (text value : List ℕ) → 1 ≤ length (drop 1 text) → ¬ AllWhite text → get_or text 0 0 ≡ 92 → value ≡ get_or (drop 1 text) 0 0 ∷ drop 1 value
    → Says (drop 1 (drop 1 text)) (drop 1 value) → Says text value
escaped_says [] value some other e v s = absurd (omega arith)
escaped_says (c ∷ []) value some other e v s = absurd (omega arith)
escaped_says (c ∷ d ∷ text) value some other e v s = says_more (Escaped d) text (drop 1 value) tt other (ap (λ (b : ℕ). b ∷ d ∷ text) e) v s

pub quoted_says : (text value : List ℕ) (n : ℕ) → 1 ≤ length text → ¬ AllWhite text → get_or text 0 0 ≡ 39 → n ≤ length (drop 1 text) → drop 1 text ≡ take n (drop 1 text) ++ 39 ∷ drop (n + 1) (drop 1 text)
    → ¬ Contains (take n (drop 1 text)) 39 → true ≡ pointwise eqb (take n (drop 1 text)) (take (length (take n (drop 1 text))) value) → Says (drop (n + 1) (drop 1 text)) (drop n value) → Says text value
quoted_says text value n some other e fits split none begins s =
    let front : value ≡ take n (drop 1 text) ++ drop (length (take n (drop 1 text))) value = (starts_is Decides-eqb value (take n (drop 1 text)) true begins).0 refl in
    let same = length-take-le n (drop 1 text) fits in
    says_more (Quoted (take n (drop 1 text))) (drop (n + 1) (drop 1 text)) (drop n value) none other (quoted_is text n some e split)
    (front ∙ ap (λ (k : ℕ). take n (drop 1 text) ++ drop k value) same) s
