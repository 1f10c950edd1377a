-- The piece that a text begins with.
use Rattle.std.proofs.Common.{◌≡◌, ◌<◌, ◌+◌, ◌==◌, ℕ, true, List, [], ◌∷◌, ◌++◌, take, drop, length, get_or, refl, sym, ◌∙◌, ap, subst, arith, append_assoc, eq-eqb}
use Rattle.std.specs.List.{Contains}
use Rattle.std.specs.Str.{NoCharPasses, IsAscii, IsUtf8}
use Rattle.std.specs.Prelude.{encode_utf8}
use Rattle.std.specs.Str.Pattern.{FindsChar, SplitsAroundMatch}
use Rattle.std.proofs.lemmas.List.{take-append-drop, get_or_default, get_or_at, drop_at, length_push, length-append}
use Rattle.std.proofs.lemmas.Str.{NoCharPasses-byte, encode_ascii, IsCharBoundary-after_ascii, IsUtf8-drop}
use Rattle.av_text.specs.Tokens.{Ends}
use Rattle.av_text.specs.Pieces.{BeginsPiece}
use Rattle.av_text.specs.declared.token.Piece.{Piece}

-- ---- up to a mark, which is ASCII

pub no_mark : (mark : ℕ) (text : List ℕ) → mark < 128 → NoCharPasses (λ d. d == mark) text → ¬ Contains text mark
no_mark mark text low none h =
    let is : get_or text h.0 0 ≡ mark = get_or_default text h.0 0 mark h.1 ∙ h.2 in
    let fails = NoCharPasses-byte (λ d. d == mark) text h.0 none h.1 (omega arith) in
    let passes : (get_or text h.0 0 == mark) ≡ true = eq-eqb (get_or text h.0 0) mark is in
    cc

pub split_mark : (mark : ℕ) (text before behind : List ℕ) → mark < 128 → SplitsAroundMatch (FindsChar mark) text before behind → (text ≡ before ++ mark ∷ behind) × ¬ Contains before mark
split_mark mark text before behind low h =
    let none = no_mark mark (take h.0 text) low (h.2.0) in
    let here : drop h.0 text ≡ mark ∷ drop h.1 text = h.2.1.split ∙ ap (λ (xs : List ℕ). xs ++ drop h.1 text) (encode_ascii mark low) in
    let e : text ≡ take h.0 text ++ mark ∷ drop h.1 text = sym (take-append-drop h.0 text) ∙ ap (λ (xs : List ℕ). take h.0 text ++ xs) here in
    (rw (h.3, h.4) e, rw h.3 none)

-- ---- at a character

-- a text that begins with an ASCII character begins with its byte
pub ascii_front : (text rest : List ℕ) (c d : ℕ) → text ≡ encode_utf8 c ++ rest → c ≡ d → d < 128 → text ≡ d ∷ rest
ascii_front text rest c d e same low = e ∙ ap (λ (xs : List ℕ). xs ++ rest) (ap encode_utf8 same ∙ encode_ascii d low)

-- the specials are ASCII
pub special_low : (specials : List ℕ) (c : ℕ) → IsAscii specials → Contains specials c → c < 128
special_low specials c ascii h =
    let low = ascii h.0 in
    let is = get_or_default specials h.0 c 0 h.1 in
    let same = h.2 in omega arith

pub special_ends : (specials text rest : List ℕ) (c : ℕ) → IsAscii specials → text ≡ encode_utf8 c ++ rest → (c ≡ 92 → ⊥) → (c ≡ 39 → ⊥) → Contains specials c → Ends specials text
special_ends specials text rest c ascii e other another h =
    rw (ascii_front text rest c c e refl (special_low specials c ascii h)) (other, another, h)

-- more of a piece after its first byte
pub piece_begins : (specials text behind rest : List ℕ) (piece : Piece) (mark : ℕ) → text ≡ mark ∷ behind → BeginsPiece specials (mark ∷ behind) piece rest → BeginsPiece specials text piece rest
piece_begins specials text behind rest piece mark e h = (h.0, h.1, e ∙ h.2)

-- what is after a mark
pub after_mark : (mark : ℕ) (text before behind : List ℕ) → mark < 128 → IsUtf8 text → text ≡ before ++ mark ∷ behind → IsUtf8 behind
after_mark mark text before behind low u e =
    let n = length before in
    let at : get_or text n 0 ≡ mark = ap (λ (xs : List ℕ). get_or xs n 0) e ∙ get_or_at before mark behind 0 n refl in
    let fits : n < length text = omega (arith, ap length e, length-append before (mark ∷ behind)) in
    let cut = IsCharBoundary-after_ascii text n u fits (omega arith) in
    let rest : drop (n + 1) text ≡ behind =
    ap (drop (n + 1)) (e ∙ sym (append_assoc before (mark ∷ []) behind)) ∙ drop_at (before ++ mark ∷ []) behind (n + 1) (length_push before mark) in
    subst IsUtf8 rest (IsUtf8-drop text (n + 1) u cut)
