-- Places in a text.
use Rattle.std.proofs.lemmas.Bool.{eqb-false, eqb-true, ltb-true}
use Rattle.std.specs.Prelude.{slice_index}
use Rattle.std.proofs.Common.{nat_lt, get_or, zero, suc, true, false, ◌==◌, ◌≡◌, ◌<◌, ◌≤◌, ◌+◌, ◌-◌, ℕ, List, [], ◌∷◌, ◌++◌, take, drop, length, refl, sym, ◌∙◌, ap, arith, append_assoc}
use Rattle.std.specs.Str.{IsUtf8}
use Rattle.std.proofs.lemmas.List.{take-append-drop, length-append, length-drop, drop-drop, drop_more}
use Rattle.av_text.specs.Classes.{is_white, Stops}
use Rattle.av_text.proofs.Runs.{same_run}
use Rattle.av_text.proofs.TokenLemmas.{rest_at, place_boundary}
use Rattle.av_text.specs.Parts.{Skips, Lacks, IsPlace}

-- what is after a front that begins at a place begins at its own place
pub later_rest : (text : List ℕ) (place : ℕ) (front rest : List ℕ) → drop place text ≡ front ++ rest → drop (length text - length rest) text ≡ rest
later_rest text place front rest e =
    rest_at text (take place text ++ front) rest (sym (take-append-drop place text) ∙ ap (λ (xs : List ℕ). take place text ++ xs) e ∙ sym (append_assoc (take place text) front rest))

pub later_place : (text : List ℕ) (place : ℕ) (front rest : List ℕ) → place ≤ length text → IsUtf8 rest → drop place text ≡ front ++ rest → IsPlace text place (length text - length rest)
later_place text place front rest within u e =
    let long = ap length e ∙ length-append front rest in
    let left = length-drop place text in (
      omega arith,
      place_boundary text rest (length text - length rest) u (omega arith) (later_rest text place front rest e),
    )

pub some_from_test : (n : ℕ) → false ≡ (n == 0) → 0 < n
some_from_test zero e = absurd (eqb-false 0 0 (sym e) refl)
some_from_test (suc n) e = omega arith

-- ---- white space

-- there is nothing to skip
pub skips_none : {text : List ℕ} → Stops is_white text → Skips text text
skips_none {text} stops = ([], record { text_is = refl; each = tt; whole = stops })

pub skipped_bare : {text rest : List ℕ} → Skips text rest → Stops is_white rest
skipped_bare h = h.1.whole

-- nothing is skipped twice
pub skip_twice : {text middle rest : List ℕ} → Skips text middle → Skips middle rest → Skips text rest
skip_twice {text} {middle} {rest} a b = rw ((same_run is_white (skips_none (skipped_bare a)).1 b.1).1) at a

pub skip_same : {text r s : List ℕ} → Skips text r → Skips text s → r ≡ s
skip_same {text} {r} {s} a b = (same_run is_white a.1 b.1).1

-- ---- marks

pub lacks_test : (mark : ℕ) (text : List ℕ) → false ≡ (slice_index text 0 == mark) → Lacks mark text
lacks_test mark [] e = tt
lacks_test mark (c ∷ text) e = sym e

pub begins_test : (mark : ℕ) (text : List ℕ) → 0 < mark → true ≡ (slice_index text 0 == mark) → (inside : List ℕ) × (text ≡ mark ∷ inside)
begins_test mark [] some e = absurd (let h = eqb-true 0 mark (sym e) in omega arith)
begins_test mark (c ∷ text) some e = (text, ap (λ (x : ℕ). x ∷ text) (eqb-true c mark (sym e)))

-- the text at a place begins with a mark, and this is what is after it
pub begins_at : (mark : ℕ) (text : List ℕ) (place : ℕ) → 0 < mark → true ≡ (slice_index (drop place text) 0 == mark) → drop place text ≡ mark ∷ drop (place + 1) text
begins_at mark text place some e =
    let h = begins_test mark (drop place text) some e in
    h.1 ∙ ap (λ (xs : List ℕ). mark ∷ xs) (sym (sym (drop-drop 1 place text) ∙ ap (drop 1) h.1))

-- the byte that was read at a place begins the text there
pub byte_at : (mark : ℕ) (text bytes : List ℕ) (place byte : ℕ) → bytes ≡ text → true ≡ nat_lt place (length bytes) → byte ≡ get_or bytes place byte → byte ≡ mark → drop place text ≡ mark ∷ drop (place + 1) text
byte_at mark text bytes place byte same within read is =
    let h : place < length bytes = ltb-true place (length bytes) (sym within) in
    let e : drop place bytes ≡ mark ∷ drop (place + 1) bytes = drop_more bytes place byte h ∙ ap (λ (x : ℕ). x ∷ drop (place + 1) bytes) (sym read ∙ is) in
    rw same at e
