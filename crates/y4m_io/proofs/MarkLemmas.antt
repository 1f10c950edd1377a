-- The lines that begin frames, and their beginnings.
use Rattle.std.proofs.Common.{◌≡◌, ◌≢◌, ◌<◌, ◌≤◌, ◌⊎◌, inl, inr, ℕ, List, [], ◌∷◌, ◌++◌, length, refl, sym, ◌∙◌, ap, subst, arith, append_assoc, length-append}
use Rattle.std.specs.List.{Contains}
use Rattle.std.proofs.lemmas.List.{append-nil, nil_from_length}
use Rattle.std.proofs.lemmas.List.Elements.{Contains-append_left, Contains-append_right}
use Rattle.y4m_io.specs.FrameTexts.{mark_word, frame_mark, IsMark}
use Rattle.y4m_io.specs.Pieces.{BeginsMark, CanBeginMark, IsMarkPart, spaced_mark, Begins, IsMarkFront}
use Rattle.y4m_io.proofs.LineLemmas.{shorter_first, no_feed_more, no_feed_append, no_feed_test, feed_within, feed_unique}

-- ---- lines of frames

-- the line is a text without line feeds and a line feed
pub mark_line : {line : List ℕ} → (m : IsMark line) → line ≡ (mark_word ++ m.params) ++ 10 ∷ []
mark_line m = m.line_is ∙ sym (append_assoc mark_word m.params (10 ∷ []))

pub mark_no_feed : {line : List ℕ} → (m : IsMark line) → ¬ Contains (mark_word ++ m.params) 10
mark_no_feed m = no_feed_append mark_word m.params (no_feed_test mark_word refl) m.no_feed

pub length-mark : {line : List ℕ} → IsMark line → 6 ≤ length line
length-mark m =
    let all = ap length m.line_is ∙ length-append mark_word (m.params ++ 10 ∷ []) in
    let rest = length-append m.params (10 ∷ []) in
    omega arith

-- a text begins with one line of a frame at most
pub mark_unique : {line other : List ℕ} (r s : List ℕ) → IsMark line → IsMark other → line ++ r ≡ other ++ s → line ≡ other
mark_unique {line} {other} r s a b e =
    let left : line ++ r ≡ (mark_word ++ a.params) ++ 10 ∷ r = ap (λ (xs : List ℕ). xs ++ r) (mark_line a) ∙ append_assoc (mark_word ++ a.params) (10 ∷ []) r in
    let right : other ++ s ≡ (mark_word ++ b.params) ++ 10 ∷ s = ap (λ (xs : List ℕ). xs ++ s) (mark_line b) ∙ append_assoc (mark_word ++ b.params) (10 ∷ []) s in
    let same = feed_unique (mark_word ++ a.params) (mark_word ++ b.params) r s (mark_no_feed a) (mark_no_feed b) (sym left ∙ (e ∙ right)) in
    mark_line a ∙ (ap (λ (xs : List ℕ). xs ++ 10 ∷ []) same ∙ sym (mark_line b))

pub written_mark : IsMark frame_mark
written_mark = record { params = []; line_is = refl; are_params = inl refl; no_feed = no_feed_test [] refl; short = omega arith }

-- a line begins without parameters or with them
pub mark_begins : {line : List ℕ} → IsMark line → (t : List ℕ) × ((line ≡ frame_mark ++ t) ⊎ (line ≡ spaced_mark ++ t))
mark_begins {line} m = elim m.are_params [
  | inl none ↦ ([], inl (m.line_is ∙ ap (λ (xs : List ℕ). mark_word ++ (xs ++ 10 ∷ [])) none))
  | inr some ↦ (some.0 ++ 10 ∷ [], inr (m.line_is ∙ ap (λ (xs : List ℕ). mark_word ++ (xs ++ 10 ∷ [])) some.1))
]

-- ---- beginnings of lines

pub part_no_mark : {front : List ℕ} → IsMarkPart front → ¬ BeginsMark front
part_no_mark {front} p b =
    let whole : (front ++ p.more) ++ [] ≡ b.mark ++ (b.rest ++ p.more) =
    append-nil (front ++ p.more) ∙ (ap (λ (xs : List ℕ). xs ++ p.more) b.text_is ∙ append_assoc b.mark b.rest p.more) in
    let same = ap length (mark_unique [] (b.rest ++ p.more) p.is_mark b.is_mark whole) in
    let all = length-append front p.more in
    let part = ap length b.text_is ∙ length-append b.mark b.rest in
    let some = p.some in
    omega arith

pub part_can : {front : List ℕ} → IsMarkPart front → CanBeginMark front
part_can {front} p = (p.more, record { mark = front ++ p.more; rest = []; is_mark = p.is_mark; text_is = sym (append-nil (front ++ p.more)) })

pub no_part : IsMarkPart []
no_part = record { more = frame_mark; some = omega arith; is_mark = written_mark }

-- a long text without line feeds
pub long_no_mark : (front : List ℕ) → ¬ Contains front 10 → 256 ≤ length front → ¬ CanBeginMark front
long_no_mark front none long can =
    let b = can.1 in
    let short = b.is_mark.short in
    let t = shorter_first front b.mark can.0 b.rest b.text_is (omega arith) in
    let P : List ℕ → Type 0 = λ ys. Contains ys 10 in
    let feed : Contains b.mark 10 = subst P (sym (mark_line b.is_mark)) (feed_within (mark_word ++ b.is_mark.params) []) in
    none (subst P (sym t.1) (Contains-append_left b.mark t.0 10 feed))

-- bytes that begin neither form
pub no_front : (bytes : List ℕ) → length bytes ≤ 6 → ¬ Begins bytes frame_mark → ¬ Begins bytes spaced_mark → ¬ CanBeginMark bytes
no_front bytes short plain spaced can =
    let b = can.1 in
    let m = mark_begins b.is_mark in
    elim m.1 [
      | inl e ↦ let t = shorter_first frame_mark bytes (m.0 ++ b.rest) can.0 (sym (b.text_is ∙ (ap (λ (xs : List ℕ). xs ++ b.rest) e ∙ append_assoc frame_mark m.0 b.rest))) (omega arith) in
          plain (t.0, t.1)
      | inr e ↦ let t = shorter_first spaced_mark bytes (m.0 ++ b.rest) can.0 (sym (b.text_is ∙ (ap (λ (xs : List ℕ). xs ++ b.rest) e ∙ append_assoc spaced_mark m.0 b.rest))) (omega arith) in
          spaced (t.0, t.1)
    ]

-- the bytes of a line before its line feed
pub spaced_whole : (text : List ℕ) → ¬ Contains (mark_word ++ 32 ∷ text) 10 → length (mark_word ++ 32 ∷ text) < 256 → IsMark ((mark_word ++ 32 ∷ text) ++ 10 ∷ [])
spaced_whole text none short = record {
  params = 32 ∷ text;
  line_is = append_assoc mark_word (32 ∷ text) (10 ∷ []);
  are_params = inr (text, refl);
  no_feed = λ h. none (Contains-append_right mark_word (32 ∷ text) 10 h);
  short = let l = length-append (mark_word ++ 32 ∷ text) (10 ∷ []) in omega arith;
}

-- a part of the first six bytes
front_part : (front : List ℕ) → length front < 6 → Begins front frame_mark ⊎ Begins front spaced_mark → IsMarkPart front
front_part front short (inl plain) = record {
  more = plain.0;
  some = let l = ap length plain.1 ∙ length-append front plain.0 in omega arith;
  is_mark = subst IsMark plain.1 written_mark;
}
front_part front short (inr spaced) = record {
  more = spaced.0 ++ 10 ∷ [];
  some = let l = length-append spaced.0 (10 ∷ []) in omega arith;
  is_mark = subst IsMark (ap (λ (xs : List ℕ). xs ++ 10 ∷ []) spaced.1 ∙ append_assoc front spaced.0 (10 ∷ [])) (spaced_whole [] (no_feed_test spaced_mark refl) (omega arith));
}

-- a beginning of a text without line feeds
begins_no_feed : (front whole : List ℕ) → ¬ Contains whole 10 → Begins front whole → ¬ Contains front 10
begins_no_feed front whole none b h = let P : List ℕ → Type 0 = λ ys. Contains ys 10 in none (subst P (sym b.1) (Contains-append_left front b.0 10 h))

early_no_feed : (front : List ℕ) → length front < 6 → Begins front frame_mark ⊎ Begins front spaced_mark → ¬ Contains front 10
early_no_feed front short (inl plain) =
    let t = shorter_first mark_word front (10 ∷ []) plain.0 plain.1 (omega arith) in
    begins_no_feed front mark_word (no_feed_test mark_word refl) (t.0, t.1)
early_no_feed front short (inr spaced) = begins_no_feed front spaced_mark (no_feed_test spaced_mark refl) spaced

pub early_front : (front : List ℕ) → length front < 6 → Begins front frame_mark ⊎ Begins front spaced_mark → IsMarkFront front
early_front front short b = record { no_feed = early_no_feed front short b; cases = inl (front_part front short b, short) }

-- all of the first six bytes
pub begins_all : (front whole : List ℕ) → length front ≡ length whole → Begins front whole → front ≡ whole
begins_all front whole long b =
    let l = ap length b.1 ∙ length-append front b.0 in
    let none : b.0 ≡ [] = nil_from_length b.0 (omega arith) in
    sym (b.1 ∙ (ap (λ (xs : List ℕ). front ++ xs) none ∙ append-nil front))

pub spaced_front : (front : List ℕ) → front ≡ spaced_mark → IsMarkFront front
spaced_front front e = subst IsMarkFront (sym e) (record { no_feed = no_feed_test spaced_mark refl; cases = inr ([], refl) })

pub front_is_part : (front : List ℕ) → IsMarkFront front → length front < 256 → IsMarkPart front
front_is_part front f short = elim f.cases [
  | inl early ↦ early.0
  | inr late ↦ record {
    more = 10 ∷ [];
    some = omega arith;
    is_mark = rw late.1 (spaced_whole late.0 (subst (λ (xs : List ℕ). ¬ Contains xs 10) late.1 f.no_feed) (subst (λ (xs : List ℕ). length xs < 256) late.1 short));
  }
]

-- a line feed ends the line
pub front_whole : (front line : List ℕ) (byte : ℕ) → line ≡ front ++ byte ∷ [] → byte ≡ 10 → IsMarkFront front → 6 ≤ length front → length front < 256 → IsMark line
front_whole front line byte e feed f long short = elim f.cases [
  | inl early ↦ absurd (let few = early.1 in omega arith)
  | inr late ↦ subst IsMark (sym (e ∙ (ap (λ (b : ℕ). front ++ b ∷ []) feed ∙ ap (λ (xs : List ℕ). xs ++ 10 ∷ []) late.1)))
      (spaced_whole late.0 (subst (λ (xs : List ℕ). ¬ Contains xs 10) late.1 f.no_feed) (subst (λ (xs : List ℕ). length xs < 256) late.1 short))
]

-- another byte goes on
pub front_more : (front more : List ℕ) (byte : ℕ) → more ≡ front ++ byte ∷ [] → IsMarkFront front → 6 ≤ length front → byte ≢ 10 → IsMarkFront more
front_more front more byte e f long other = elim f.cases [
  | inl early ↦ absurd (let few = early.1 in omega arith)
  | inr late ↦ record {
    no_feed = no_feed_more front byte e f.no_feed other;
    cases = inr (late.0 ++ byte ∷ [], e ∙ (ap (λ (xs : List ℕ). xs ++ byte ∷ []) late.1 ∙ append_assoc mark_word (32 ∷ late.0) (byte ∷ [])));
  }
]
