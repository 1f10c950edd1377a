-- The line of a frame that is read.
use Rattle.std.proofs.Common.{◌≡◌, ◌≢◌, ◌<◌, ◌≤◌, ◌⊎◌, inl, inr, ℕ, List, [], ◌∷◌, ◌++◌, take, length, get_or, Some, refl, sym, ◌∙◌, ap, subst, arith, ⊎_elim}
use Rattle.std.specs.Option.{ForSome}
use Rattle.std.proofs.lemmas.Bool.{cases_lt}
use Rattle.std.proofs.lemmas.List.{append-nil, take-append-le, length-take-le, get_or-take}
use Rattle.av_host.specs.World.{World}
use Rattle.av_host.specs.Calls.{Reads}
use Rattle.av_host.proofs.Runs.{Reads-append}
use Rattle.y4m_io.specs.FrameTexts.{frame_mark, IsMark}
use Rattle.y4m_io.specs.Pieces.{Begins, spaced_mark, CanBeginMark, IsMarkFront, HasEnded, ReadsNoMark, ReadsMarkPart, ReadsMarkPast}
use Rattle.y4m_io.proofs.MarkLemmas.{written_mark, early_front, spaced_front, begins_all, front_is_part}
use Rattle.y4m_io.proofs.ReadLemmas.{all_read, ended_after}

-- the first bytes begin no line
pub mark_other : {a b : World} {id : ℕ} (room n : ℕ) (buf rest : List ℕ) → Reads a b id (take n buf) → n ≤ length buf → n ≤ room → ¬ CanBeginMark (take n (buf ++ rest)) → ReadsNoMark a b id room
mark_other room n buf rest reads fits within none = record {
  front = take n buf;
  reads = reads;
  within = let long = length-take-le n buf fits in omega arith;
  no_mark = subst (λ (xs : List ℕ). ¬ CanBeginMark xs) (take-append-le n buf rest fits) none;
}

-- the input ended within the first bytes
pub mark_short : {a b : World} {id : ℕ} (room n : ℕ) (buf rest : List ℕ) → Reads a b id (take n buf) → n ≤ length buf → n ≤ room → 0 < n → n < 6 → HasEnded a b id
    → Begins (take n (buf ++ rest)) frame_mark ⊎ Begins (take n (buf ++ rest)) spaced_mark → ReadsMarkPart a b id room
mark_short room n buf rest reads fits within some few ended front =
    let long = length-take-le n buf fits in
    let same = take-append-le n buf rest fits in
    let is : Begins (take n buf) frame_mark ⊎ Begins (take n buf) spaced_mark = subst (λ (xs : List ℕ). Begins xs frame_mark ⊎ Begins xs spaced_mark) same front in
    record {
      front = take n buf;
      reads = reads;
      some = omega arith;
      within = omega arith;
      is_part = front_is_part (take n buf) (early_front (take n buf) (omega arith) is) (omega arith);
      ended = ended;
    }

-- all first bytes are those of a line without parameters, or of one with some
six_bytes : (text : List ℕ) (byte : ℕ) → byte ≡ get_or text 5 0 → take 6 text ≡ frame_mark → byte ≡ 10
six_bytes text byte is e = is ∙ (sym (get_or-take 6 text 5 0 (omega arith)) ∙ ap (λ (xs : List ℕ). get_or xs 5 0) e)

six_spaced : (text : List ℕ) (byte : ℕ) → byte ≡ get_or text 5 0 → take 6 text ≡ spaced_mark → byte ≡ 32
six_spaced text byte is e = is ∙ (sym (get_or-take 6 text 5 0 (omega arith)) ∙ ap (λ (xs : List ℕ). get_or xs 5 0) e)

six_cases : (text : List ℕ) → length (take 6 text) ≡ 6 → Begins (take 6 text) frame_mark ⊎ Begins (take 6 text) spaced_mark → (take 6 text ≡ frame_mark) ⊎ (take 6 text ≡ spaced_mark)
six_cases text long (inl plain) = inl (begins_all (take 6 text) frame_mark (omega arith) plain)
six_cases text long (inr spaced) = inr (begins_all (take 6 text) spaced_mark (omega arith) spaced)

pub mark_plain : {a b : World} {id n room : ℕ} (buf rest : List ℕ) → n ≡ 6 → Reads a b id (take n buf) → n ≤ length buf → n ≤ room → get_or (buf ++ rest) 5 0 ≡ 10
    → Begins (take n (buf ++ rest)) frame_mark ⊎ Begins (take n (buf ++ rest)) spaced_mark → (line : List ℕ) × Reads a b id line × IsMark line × (length line ≡ n) × (n ≤ room)
mark_plain {a} {b} {id} {n} {room} buf rest six reads fits within feed front =
    let long = length-take-le n buf fits in
    let same = take-append-le n buf rest fits in
    let first : take 6 (buf ++ rest) ≡ take n buf = ap (λ m. take m (buf ++ rest)) (sym six) ∙ same in
    let all : length (take 6 (buf ++ rest)) ≡ 6 = ap length first ∙ (long ∙ six) in
    let is = rw six at front in (
      take n buf,
      reads,
      elim (six_cases (buf ++ rest) all is) [
        | inl plain ↦ subst IsMark (sym plain ∙ first) written_mark
        | inr spaced ↦ absurd (let other = six_spaced (buf ++ rest) (get_or (buf ++ rest) 5 0) refl spaced in omega arith)
      ],
      long,
      within,
    )

pub mark_begun : (n : ℕ) (text : List ℕ) → length (take n text) ≡ n → n ≤ 6 → (n ≡ 6 → get_or text 5 0 ≢ 10) → Begins (take n text) frame_mark ⊎ Begins (take n text) spaced_mark → IsMarkFront (take n text)
mark_begun n text long most other front =
    ⊎_elim
    (λ (less : n < 6). early_front (take n text) (omega arith) front)
    (λ (more : 6 ≤ n).
    let six : n ≡ 6 = omega arith in
    let all : length (take 6 text) ≡ 6 = ap (λ m. length (take m text)) (sym six) ∙ (long ∙ six) in
    let is = rw six at front in
    elim (six_cases text all is) [
      | inl plain ↦ absurd (other six (six_bytes text (get_or text 5 0) refl plain))
      | inr spaced ↦ spaced_front (take n text) (ap (λ m. take m text) six ∙ spaced)
    ])
    (cases_lt n 6)

-- an end after a read
pub ended_empty : {a b c : World} {id : ℕ} {xs : List ℕ} → Reads a b id xs → Reads b c id [] → ForSome (b.inputs.left id) (λ left. left ≡ []) → Reads a c id xs × HasEnded a c id
ended_empty {a} {b} {c} {id} {xs} reads read ended = (
  subst (λ (ys : List ℕ). Reads a c id ys) (append-nil xs) (Reads-append reads read),
  ended_after c reads (λ left told. read.inputs.left left told ∙ ap Some (ended left told)),
)

-- the input ended, or a byte follows the limit
pub mark_ended : {a b c : World} {id : ℕ} (room n : ℕ) (buf : List ℕ) → Reads a b id (take n buf) → Reads b c id [] → ForSome (b.inputs.left id) (λ left. left ≡ []) → IsMarkFront (take n buf) → n ≤ length buf → n ≤ room
    → n < 256 → 0 < n → ReadsMarkPart a c id room
mark_ended {a} {b} {c} {id} room n buf reads read ended front fits within few some =
    let long = length-take-le n buf fits in
    let both = ended_empty reads read ended in
    record { front = take n buf; reads = both.0; some = omega arith; within = omega arith; is_part = front_is_part (take n buf) front (omega arith); ended = both.1 }

pub mark_none : {a b c : World} {id : ℕ} (n : ℕ) (buf : List ℕ) → n ≡ 0 → Reads a b id (take n buf) → Reads b c id [] → ForSome (b.inputs.left id) (λ left. left ≡ []) → Reads a c id [] × ForSome (a.inputs.left id) (λ left. left ≡ [])
mark_none {a} {b} {c} {id} n buf none reads read ended =
    let both = ended_empty (subst (λ m. Reads a b id (take m buf)) none reads) read ended in
    (both.0, all_read both.0 both.1)

pub mark_past : {a b c : World} {id byte : ℕ} (room n : ℕ) (buf : List ℕ) → Reads a b id (take n buf) → Reads b c id (byte ∷ []) → IsMarkFront (take n buf) → n ≤ length buf → n ≡ room → n < 256 → ReadsMarkPast a c id room
mark_past {a} {b} {c} {id} {byte} room n buf reads read front fits all few =
    let long = length-take-le n buf fits in
    record { front = take n buf; piece = byte ∷ []; reads = Reads-append reads read; some = omega arith; all = omega arith; is_part = front_is_part (take n buf) front (omega arith) }
