-- A token as far as it was read.
use Rattle.std.proofs.Common.{◌≡◌, ◌<◌, ◌≤◌, ◌-◌, ◌⊎◌, if◌then◌else◌, ℕ, Bool, true, false, List, [], ◌∷◌, ◌++◌, map, take, drop, length, get_or, refl, sym, ◌∙◌, ap, arith, inl, inr, append_assoc}
use Rattle.std.specs.List.{AllByRecursion, flat_map}
use Rattle.std.specs.Str.{IsAscii, IsUtf8, IsCharBoundary}
use Rattle.std.specs.Prelude.{encode_utf8}
use Rattle.std.proofs.lemmas.Grind.{flat_map-append}
use Rattle.std.proofs.lemmas.List.{append-nil, length-append, get_or_default, take_at, drop_at, take-append-drop, length-take-le}
use Rattle.std.proofs.lemmas.List.Elements.{recursion_from_All}
use Rattle.std.proofs.lemmas.Bool.{cases_lt, cases_Bool, ne_eqb}
use Rattle.std.proofs.lemmas.Str.{encode_ascii, length-encode, len_utf8_bounds, inside_one, IsCharBoundary-from_drop}
use Rattle.av_text.specs.Classes.{is_white, IsRun}
use Rattle.av_text.specs.Tokens.{Piece, Plain, Escaped, Quoted, source, meaning, IsPiece, is_blank, put_before, trimmed, IsRow}
use Rattle.av_text.specs.Pieces.{BeginsPiece, said, is_gap}
use Rattle.av_text.specs.declared.token.Piece.{Piece as Read}
use Rattle.av_text.specs.declared.token.Piece.TheVariants as read
use Rattle.av_text.proofs.Runs.{all_append, white_ascii}

-- ---- rows of pieces and their ends

put_before_some : (p : Piece) (ps : List Piece) → 0 < length ps → put_before p ps ≡ p ∷ ps
put_before_some p [] some = absurd (omega arith)
put_before_some p (q ∷ qs) some = refl

abbrev IsSolid : Piece → Type 0
IsSolid p = is_blank p ≡ false

trimmed_solid : (ps : List Piece) → AllByRecursion IsSolid ps → trimmed ps ≡ ps
trimmed_solid [] a = refl
trimmed_solid (p ∷ []) a = rw a.0 refl
trimmed_solid (p ∷ q ∷ qs) a = ap (put_before p) (trimmed_solid (q ∷ qs) a.1)

trimmed_append : (row ps : List Piece) → AllByRecursion IsSolid ps → 0 < length ps → trimmed (row ++ ps) ≡ row ++ ps
trimmed_append [] ps a some = trimmed_solid ps a
trimmed_append (r ∷ row) ps a some = ap (put_before r) (trimmed_append row ps a some) ∙ put_before_some r (row ++ ps) (omega (arith, length-append row ps))

trimmed_blank : (row : List Piece) (b : Piece) → is_blank b ≡ true → trimmed (row ++ b ∷ []) ≡ trimmed row
trimmed_blank [] b e = rw e refl
trimmed_blank (r ∷ row) b e = ap (put_before r) (trimmed_blank row b e)

-- ---- the pieces of a character

plains : List ℕ → List Piece
plains = map Plain

pub plain_sources : (bs : List ℕ) → flat_map source (map Plain bs) ≡ bs
plain_sources [] = refl
plain_sources (b ∷ bs) = ap (λ (xs : List ℕ). b ∷ xs) (plain_sources bs)

plain_meanings : (bs : List ℕ) → flat_map meaning (map Plain bs) ≡ bs
plain_meanings [] = refl
plain_meanings (b ∷ bs) = ap (λ (xs : List ℕ). b ∷ xs) (plain_meanings bs)

high_plain : (specials : List ℕ) (b : ℕ) → IsAscii specials → 128 ≤ b → IsPiece specials (Plain b)
high_plain specials b ascii high = (λ e. omega arith, λ e. omega arith, λ h. (let low = ascii h.0 in let is = get_or_default specials h.0 b 0 h.1 in let same = h.2 in omega arith))

high_solid : (b : ℕ) → 128 ≤ b → is_white b ≡ false
high_solid b high = rw (ne_eqb b 32 (λ e. omega arith), ne_eqb b 9 (λ e. omega arith), ne_eqb b 10 (λ e. omega arith), ne_eqb b 13 (λ e. omega arith)) refl

high_plains : (specials bs : List ℕ) → IsAscii specials → AllByRecursion (λ b. 128 ≤ b) bs → AllByRecursion (IsPiece specials) (map Plain bs)
high_plains specials [] ascii a = tt
high_plains specials (b ∷ bs) ascii a = (high_plain specials b ascii a.0, high_plains specials bs ascii a.1)

high_solids : (bs : List ℕ) → AllByRecursion (λ b. 128 ≤ b) bs → AllByRecursion IsSolid (map Plain bs)
high_solids [] a = tt
high_solids (b ∷ bs) a = (high_solid b a.0, high_solids bs a.1)

encode_some : (c : ℕ) → 0 < length (encode_utf8 c)
encode_some c = omega (arith, length-encode c, (len_utf8_bounds c).0)

-- a character above ASCII is made of bytes above ASCII
encode_high : (c : ℕ) → 128 ≤ c → AllByRecursion (λ b. 128 ≤ b) (encode_utf8 c)
encode_high c high = recursion_from_All (λ b. 128 ≤ b) (encode_utf8 c) (λ k d h. byte k d h) where
  byte : (k d : ℕ) → k < length (encode_utf8 c) → 128 ≤ get_or (encode_utf8 c) k d
  byte k d h = elim (cases_lt (get_or (encode_utf8 c) k 0) 128) [
    | inl low ↦ (let same = inside_one c [] (encode_utf8 c) k (sym (append-nil (encode_utf8 c))) h low in absurd (omega arith))
    | inr fine ↦ (let e = get_or_default (encode_utf8 c) k 0 d h in omega arith)
  ]

-- ---- the state of reading

-- the text is a row of pieces so far, and this rest; the value is what the row says, of which `kept` bytes come
-- before the plain white space at its end
pub record Reads (specials text rest value : List ℕ) (kept : ℕ) : Type 0 where
  pub row : List Piece
  pub trail : List ℕ
  pub text_is : text ≡ flat_map source row ++ rest
  pub each : AllByRecursion (IsPiece specials) row
  pub value_is : value ≡ flat_map meaning row
  pub parts : value ≡ flat_map meaning (trimmed row) ++ trail
  pub white : AllByRecursion (λ c. is_white c ≡ true) trail
  pub kept_is : kept ≡ length (flat_map meaning (trimmed row))

pub reads_none : (specials text : List ℕ) → Reads specials text text [] 0
reads_none specials text = record { row = []; trail = []; text_is = refl; each = tt; value_is = refl; parts = refl; white = tt; kept_is = refl }

-- pieces that aren't plain white space
reads_solid : {specials text rest value : List ℕ} {kept : ℕ} (ps : List Piece) (next more : List ℕ) → Reads specials text rest value kept → AllByRecursion (IsPiece specials) ps
    → AllByRecursion IsSolid ps → 0 < length ps → rest ≡ flat_map source ps ++ next → more ≡ value ++ flat_map meaning ps → Reads specials text next more (length more)
reads_solid {specials} {text} {rest} {value} {kept} ps next more r each solid some e m =
    let row = r.row ++ ps in
    let all : more ≡ flat_map meaning row = m ∙ ap (λ (v : List ℕ). v ++ flat_map meaning ps) r.value_is ∙ sym (flat_map-append meaning r.row ps) in
    let whole : trimmed row ≡ row = trimmed_append r.row ps solid some in
    record {
      row = row;
      trail = [];
      text_is = r.text_is ∙ ap (λ (t : List ℕ). flat_map source r.row ++ t) e ∙ sym (append_assoc (flat_map source r.row) (flat_map source ps) next)
          ∙ ap (λ (t : List ℕ). t ++ next) (sym (flat_map-append source r.row ps));
      each = all_append (IsPiece specials) r.row ps r.each each;
      value_is = all;
      parts = all ∙ ap (flat_map meaning) (sym whole) ∙ sym (append-nil (flat_map meaning (trimmed row)));
      white = tt;
      kept_is = ap length (all ∙ ap (flat_map meaning) (sym whole));
    }

-- plain white space
reads_blank : {specials text rest value : List ℕ} {kept : ℕ} (c : ℕ) (next more : List ℕ) → Reads specials text rest value kept → IsPiece specials (Plain c)
    → is_white c ≡ true → rest ≡ c ∷ next → more ≡ value ++ c ∷ [] → Reads specials text next more kept
reads_blank {specials} {text} {rest} {value} {kept} c next more r each white e m =
    let row = r.row ++ Plain c ∷ [] in
    let same : trimmed row ≡ trimmed r.row = trimmed_blank r.row (Plain c) white in
    record {
      row = row;
      trail = r.trail ++ c ∷ [];
      text_is = r.text_is ∙ ap (λ (t : List ℕ). flat_map source r.row ++ t) e ∙ sym (append_assoc (flat_map source r.row) (c ∷ []) next)
          ∙ ap (λ (t : List ℕ). t ++ next) (sym (flat_map-append source r.row (Plain c ∷ [])));
      each = all_append (IsPiece specials) r.row (Plain c ∷ []) r.each (each, tt);
      value_is = m ∙ ap (λ (v : List ℕ). v ++ c ∷ []) r.value_is ∙ sym (flat_map-append meaning r.row (Plain c ∷ []));
      parts = m ∙ ap (λ (v : List ℕ). v ++ c ∷ []) r.parts ∙ append_assoc (flat_map meaning (trimmed r.row)) r.trail (c ∷ [])
          ∙ ap (λ (ps : List Piece). flat_map meaning ps ++ (r.trail ++ c ∷ [])) (sym same);
      white = all_append (λ (d : ℕ). is_white d ≡ true) r.trail (c ∷ []) r.white (white, tt);
      kept_is = r.kept_is ∙ ap (λ (ps : List Piece). length (flat_map meaning ps)) (sym same);
    }

-- ---- one piece more

-- the bytes of a character that means itself or is escaped, of which the first is a piece of its own
reads_char : {specials text rest value : List ℕ} {kept : ℕ} (first : ℕ → Piece) (mark : List ℕ) (c : ℕ) (next more : List ℕ) → Reads specials text rest value kept → IsAscii specials
    → ((b : ℕ) → source (first b) ≡ mark ++ b ∷ []) → ((b : ℕ) → meaning (first b) ≡ b ∷ []) → ((b : ℕ) → (128 ≤ b) ⊎ (b ≡ c) → IsPiece specials (first b) × IsSolid (first b))
    → rest ≡ (mark ++ encode_utf8 c) ++ next → more ≡ value ++ encode_utf8 c → Reads specials text next more (length more)
reads_char {specials} {text} {rest} {value} {kept} first mark c next more r ascii sources meanings fine e m = elim (cases_lt c 128) [
  | inl low ↦
      (let one = encode_ascii c low in
      let p = fine c (inr refl) in
      reads_solid (first c ∷ []) next more r (p.0, tt) (p.1, tt) (omega arith)
      (e ∙ ap (λ (xs : List ℕ). (mark ++ xs) ++ next) one ∙ ap (λ (xs : List ℕ). xs ++ next) (sym (append-nil (source (first c)) ∙ sources c)))
      (m ∙ ap (λ (xs : List ℕ). value ++ xs) (one ∙ sym (append-nil (meaning (first c)) ∙ meanings c))))
  | inr high ↦ several (encode_utf8 c) (encode_high c high) (encode_some c) e m
] where
  several : (bs : List ℕ) → AllByRecursion (λ b. 128 ≤ b) bs → 0 < length bs → rest ≡ (mark ++ bs) ++ next → more ≡ value ++ bs → Reads specials text next more (length more)
  several [] a some f n = absurd (omega arith)
  several (b ∷ bs) a some f n =
      let p = fine b (inl a.0) in
      reads_solid (first b ∷ map Plain bs) next more r (p.0, high_plains specials bs ascii a.1) (p.1, high_solids bs a.1) (omega arith)
      (f ∙ ap (λ (xs : List ℕ). xs ++ next) (sym (append_assoc mark (b ∷ []) bs) ∙ (ap (λ (xs : List ℕ). xs ++ bs) (sym (sources b)) ∙ ap (λ (xs : List ℕ). source (first b) ++ xs) (sym (plain_sources bs)))))
      (n ∙ ap (λ (xs : List ℕ). value ++ xs) (ap (λ (xs : List ℕ). xs ++ bs) (sym (meanings b)) ∙ ap (λ (xs : List ℕ). meaning (first b) ++ xs) (sym (plain_meanings bs))))

pub reads_more : {specials text rest value : List ℕ} {kept : ℕ} (piece : Read) (next more : List ℕ) (keeps : ℕ) → Reads specials text rest value kept → IsAscii specials → BeginsPiece specials rest piece next
    → more ≡ value ++ said piece → keeps ≡ (if is_gap piece then kept else length more) → Reads specials text next more keeps
reads_more {specials} {text} {rest} {value} {kept} (read.Plain c) next more keeps r ascii h m k = elim (cases_Bool (is_white c)) [
  | inl white ↦
      (let one = encode_ascii c (white_ascii c white) in
      let same : keeps ≡ kept = k ∙ ap (λ (b : Bool). if b then kept else length more) white in
      rw same (reads_blank c next more r (h.1.1, h.1.2, h.1.3) white (h.2 ∙ ap (λ (xs : List ℕ). xs ++ next) (h.1.0 ∙ one)) (m ∙ ap (λ (xs : List ℕ). value ++ xs) one)))
  | inr other ↦
      (let same : keeps ≡ length more = k ∙ ap (λ (b : Bool). if b then kept else length more) other in
      rw same (reads_char Plain [] c next more r ascii (λ b. refl) (λ b. refl) (plain other) (h.2 ∙ ap (λ (xs : List ℕ). xs ++ next) h.1.0) m))
] where
  plain : is_white c ≡ false → (b : ℕ) → (128 ≤ b) ⊎ (b ≡ c) → IsPiece specials (Plain b) × (is_white b ≡ false)
  plain other b (inl high) = (high_plain specials b ascii high, high_solid b high)
  plain other b (inr same) = rw same ((h.1.1, h.1.2, h.1.3), other)
reads_more {specials} {text} {rest} {value} {kept} (read.Escaped c) next more keeps r ascii h m k =
    rw k (reads_char Escaped (92 ∷ []) c next more r ascii (λ b. refl) (λ b. refl) (λ b e. (tt, refl)) (h.2 ∙ ap (λ (xs : List ℕ). xs ++ next) h.1) m)
reads_more {specials} {text} {rest} {value} {kept} (read.Quoted inner) next more keeps r ascii h m k =
    rw k (reads_solid (Quoted inner.now ∷ []) next more r (h.1.1, tt) (refl, tt) (omega arith)
    (h.2 ∙ ap (λ (xs : List ℕ). xs ++ next) (h.1.0 ∙ sym (append-nil (source (Quoted inner.now))))) (m ∙ ap (λ (xs : List ℕ). value ++ xs) (sym (append-nil inner.now))))

-- ---- the end

pub is_row : {specials from lead text rest value : List ℕ} {kept : ℕ} → IsRun is_white from lead text → (r : Reads specials text rest value kept) → IsRow specials from r.row rest
is_row {specials} {from} {lead} {text} {rest} {value} {kept} run r = record {
  lead = lead;
  begins = rw r.text_is at run;
  each = r.each;
}

pub kept_value : {specials text rest value : List ℕ} {kept : ℕ} → (r : Reads specials text rest value kept) → take kept value ≡ flat_map meaning (trimmed r.row)
kept_value {specials} {text} {rest} {value} {kept} r = ap (take kept) r.parts ∙ take_at (flat_map meaning (trimmed r.row)) r.trail kept (sym r.kept_is)

-- what is after a front begins where the front ends
pub rest_at : (text front rest : List ℕ) → text ≡ front ++ rest → drop (length text - length rest) text ≡ rest
rest_at text front rest e =
    let long : length front ≡ length text - length rest = omega (arith, ap length e, length-append front rest) in
    ap (drop (length text - length rest)) e ∙ drop_at front rest (length text - length rest) long

-- the rest of a token is a rest of the whole text
pub rest_from : {specials text from lead behind rest value : List ℕ} {kept : ℕ} (start : ℕ) → from ≡ drop start text → start ≤ length text → IsRun is_white from lead behind → Reads specials behind rest value kept
    → (front : List ℕ) × (text ≡ front ++ rest) × (start ≤ length front)
rest_from {specials} {text} {from} {lead} {behind} {rest} {value} {kept} start f within run r =
    let front = take start text in
    let row = flat_map source r.row in (
      front ++ (lead ++ row),
      sym (take-append-drop start text) ∙ ap (λ (xs : List ℕ). front ++ xs) (sym f ∙ run.text_is ∙ ap (λ (xs : List ℕ). lead ++ xs) r.text_is ∙ sym (append_assoc lead row rest))
          ∙ sym (append_assoc front (lead ++ row) rest),
      omega (arith, length-append front (lead ++ row), length-take-le start text within),
    )

-- a piece takes a part of the text
pub piece_takes : (specials : List ℕ) {text rest : List ℕ} (piece : Read) → BeginsPiece specials text piece rest → length rest < length text
piece_takes specials {text} {rest} (read.Plain c) h = omega (arith, ap length h.2, length-append h.0 rest, ap length h.1.0, encode_some c)
piece_takes specials {text} {rest} (read.Escaped c) h = omega (arith, ap length h.2, length-append h.0 rest, ap length h.1, encode_some c)
piece_takes specials {text} {rest} (read.Quoted inner) h = omega (arith, ap length h.2, length-append h.0 rest, ap length h.1.0)

-- ---- places

pub place_boundary : (text rest : List ℕ) (place : ℕ) → IsUtf8 rest → place ≤ length text → drop place text ≡ rest → IsCharBoundary text place
place_boundary text rest place u within e = IsCharBoundary-from_drop text place within (rw e u)
