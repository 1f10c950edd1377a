-- A file has an outcome, always.
use Rattle.std.proofs.Common.{◌≡◌, ℕ, pos, zero, suc, ◌+◌, ◌-◌, ◌<◌, ◌≤◌, ◌⊎◌, inl, inr, List, [], ◌∷◌, ◌++◌, take, drop, length, Result, Ok, Err, refl, ap, sym, ◌∙◌, subst, arith, append_assoc, length-append}
use Rattle.std.specs.List.{Contains}
use Rattle.std.proofs.lemmas.Bool.{cases_lt, cases_eq}
use Rattle.std.proofs.lemmas.List.{append_cancel_left, take_all, take-append-drop, length-take-le, length-take}
use Rattle.std.proofs.lemmas.List.Elements.{Contains-append_right}
use Rattle.av_base.specs.declared.shapes.Shape.{Shape}
use Rattle.av_base.specs.Shapes.{bytes_of}
use Rattle.av_frame.specs.Frames.{FrameValue}
use Rattle.av_frame.specs.declared.faults.NextError.{NextError}
use Rattle.av_frame.specs.declared.faults.NextError.TheVariants as next
use Rattle.y4m_io.specs.FrameTexts.{mark_word, frame_mark, picture_text, AreMarkParams, IsMark, BeginsFrame, CanBeginFrame, IsFrameAt, AreFramesThen}
use Rattle.y4m_io.specs.Heads.{HasHead}
use Rattle.y4m_io.specs.Files.{BeginsFile, IsDamage, FramesMean}
use Rattle.y4m_io.specs.Pieces.{BeginsMark, CanBeginMark, IsMarkPart, spaced_mark}
use Rattle.y4m_io.proofs.LineLemmas.{shorter_first, prefix_decided, feed_within, feed_unique, HasFeed, feed_decided}
use Rattle.y4m_io.proofs.MarkLemmas.{mark_line, mark_no_feed, length-mark, mark_begins, long_no_mark, no_front, early_front, front_is_part}
use Rattle.y4m_io.proofs.FrameLemmas.{picture_of, can_begin-part, can_begin-line, no_frame-part, no_frame-line, can_mark_of}
use Rattle.y4m_io.proofs.FrameListLemmas.{rest_shorter, length-first}

-- ---- the line of a frame

-- what a text begins with
data HasMark (text : List ℕ) : Type 0 where
  Whole : BeginsMark text → HasMark text
  Part : IsMarkPart text → HasMark text
  Bad : ¬ CanBeginMark text → HasMark text

params_decided : (params : List ℕ) → AreMarkParams params ⊎ ¬ AreMarkParams params
params_decided [] = inl (inl refl)
params_decided (c ∷ text) = elim (cases_eq c 32) [
  | inl space ↦ inl (inr (text, ap (λ (b : ℕ). b ∷ text) space))
  | inr other ↦ inr (λ are. elim are [ inl none ↦ absurd (let e : c ∷ text ≡ [] = none in cc) | inr some ↦ other (let e : c ∷ text ≡ 32 ∷ some.0 = some.1 in cc) ])
]

-- a line of a frame without its line feed
mark_body : (line : List ℕ) → ¬ Contains line 10 → (m : IsMark (line ++ 10 ∷ [])) → line ≡ mark_word ++ m.params
mark_body line none m = feed_unique line (mark_word ++ m.params) [] [] none (mark_no_feed m) (mark_line m)

body_mark : (line params : List ℕ) → ¬ Contains line 10 → length line < 256 → line ≡ mark_word ++ params → AreMarkParams params → IsMark (line ++ 10 ∷ [])
body_mark line params none short e are = record {
  params = params;
  line_is = ap (λ (xs : List ℕ). xs ++ 10 ∷ []) e ∙ append_assoc mark_word params (10 ∷ []);
  are_params = are;
  no_feed = λ h. none (let P : List ℕ → Type 0 = λ ys. Contains ys 10 in subst P (sym e) (Contains-append_right mark_word params 10 h));
  short = let all = length-append line (10 ∷ []) in omega arith;
}

-- the first line is that of a frame, or it isn't
line_decided : (line : List ℕ) → ¬ Contains line 10 → IsMark (line ++ 10 ∷ []) ⊎ ¬ IsMark (line ++ 10 ∷ [])
line_decided line none = elim (cases_lt (length line) 256) [
  | inr long ↦ inr (λ m. let short = m.short in let all = length-append line (10 ∷ []) in omega arith)
  | inl short ↦ elim (prefix_decided mark_word line) [
    | inr other ↦ inr (λ m. other m.params (mark_body line none m))
    | inl begins ↦ elim (params_decided begins.0) [
      | inl are ↦ inl (body_mark line begins.0 none short begins.1 are)
      | inr differ ↦ inr (λ m. differ (subst AreMarkParams (append_cancel_left mark_word m.params begins.0 (sym (mark_body line none m) ∙ begins.1)) m.are_params))
    ]
  ]
]

-- a text whose first line isn't that of a frame
other_line : (text : List ℕ) (h : HasFeed text) → ¬ IsMark (h.line ++ 10 ∷ []) → ¬ CanBeginMark text
other_line text h other can =
    let b = can.1 in
    let body = mark_word ++ b.is_mark.params in
    let left : text ++ can.0 ≡ h.line ++ 10 ∷ (h.rest ++ can.0) = ap (λ (xs : List ℕ). xs ++ can.0) h.text_is ∙ append_assoc h.line (10 ∷ h.rest) can.0 in
    let right : b.mark ++ b.rest ≡ body ++ 10 ∷ b.rest = ap (λ (xs : List ℕ). xs ++ b.rest) (mark_line b.is_mark) ∙ append_assoc body (10 ∷ []) b.rest in
    let same = feed_unique h.line body (h.rest ++ can.0) b.rest h.no_feed (mark_no_feed b.is_mark) (sym left ∙ (b.text_is ∙ right)) in
    other (subst IsMark (mark_line b.is_mark ∙ ap (λ (xs : List ℕ). xs ++ 10 ∷ []) (sym same)) b.is_mark)

-- a text of six bytes or more without a line feed
no_spaces : (text : List ℕ) → ¬ Contains text 10 → 6 ≤ length text → ((rest : List ℕ) → text ≡ spaced_mark ++ rest → ⊥) → ¬ CanBeginMark text
no_spaces text none long other can =
    let b = can.1 in
    let m = mark_begins b.is_mark in
    elim m.1 [
      | inl e ↦ let t = shorter_first text frame_mark can.0 (m.0 ++ b.rest) (b.text_is ∙ (ap (λ (xs : List ℕ). xs ++ b.rest) e ∙ append_assoc frame_mark m.0 b.rest)) long in
          none (let P : List ℕ → Type 0 = λ ys. Contains ys 10 in subst P (sym t.1) (feed_within mark_word t.0))
      | inr e ↦ let t = shorter_first text spaced_mark can.0 (m.0 ++ b.rest) (b.text_is ∙ (ap (λ (xs : List ℕ). xs ++ b.rest) e ∙ append_assoc spaced_mark m.0 b.rest)) long in
          other t.0 t.1
    ]

few_decided : (text : List ℕ) → length text < 6 → HasMark text
few_decided text few = elim (prefix_decided text frame_mark) [
  | inl plain ↦ Part (front_is_part text (early_front text few (inl plain)) (omega arith))
  | inr other ↦ elim (prefix_decided text spaced_mark) [
    | inl spaced ↦ Part (front_is_part text (early_front text few (inr spaced)) (omega arith))
    | inr none ↦ Bad (no_front text (omega arith) (λ b. other b.0 b.1) (λ b. none b.0 b.1))
  ]
]

many_decided : (text : List ℕ) → ¬ Contains text 10 → 6 ≤ length text → HasMark text
many_decided text none long = elim (cases_lt (length text) 256) [
  | inr past ↦ Bad (long_no_mark text none past)
  | inl short ↦ elim (prefix_decided spaced_mark text) [
    | inl spaced ↦ Part (front_is_part text (record { no_feed = none; cases = inr (spaced.0, spaced.1) }) short)
    | inr other ↦ Bad (no_spaces text none long other)
  ]
]

mark_decided : (text : List ℕ) → HasMark text
mark_decided text = elim (feed_decided text) [
  | inl h ↦ elim (line_decided h.line h.no_feed) [
    | inl mark ↦ Whole (record { mark = h.line ++ 10 ∷ []; rest = h.rest; is_mark = mark; text_is = h.text_is ∙ sym (append_assoc h.line (10 ∷ []) h.rest) })
    | inr other ↦ Bad (other_line text h other)
  ]
  | inr none ↦ elim (cases_lt (length text) 6) [
    | inl few ↦ few_decided text few
    | inr many ↦ many_decided text none many
  ]
]

-- ---- the first frame

-- what a text is at the place of the k-th frame, of which `room` bytes are within the limit
data HasFirst (shape : Shape) (k room : ℕ) (text : List ℕ) : Type 0 where
  Frame : (f : FrameValue) (mark after : List ℕ) → IsMark mark → IsFrameAt shape k f → text ≡ mark ++ (picture_text f.planes ++ after) → length text ≤ room + length after → HasFirst shape k room text
  Damaged : (e : NextError) → IsDamage shape room k text e → HasFirst shape k room text

-- a text that may go on to a frame
cut_short : (shape : Shape) (k room : ℕ) (text : List ℕ) → 0 < length text → CanBeginFrame shape (take room text) → ¬ BeginsFrame shape (take room text) → HasFirst shape k room text
cut_short shape k room text some can none = elim (cases_lt room (length text)) [
  | inl past ↦ Damaged next.TooLong (record { past = past; can_begin = can; no_frame = none })
  | inr within ↦ Damaged (next.Truncated k) (
    refl,
    record {
      some = some;
      within = within;
      can_begin = subst (CanBeginFrame shape) (take_all room text within) can;
      no_frame = subst (λ (t : List ℕ). ¬ BeginsFrame shape t) (take_all room text within) none;
    },
  )
]

-- a whole frame is within the limit
whole_first : (shape : Shape) (k room : ℕ) (text mark body : List ℕ) → IsMark mark → take room text ≡ mark ++ body → bytes_of shape ≤ length body → HasFirst shape k room text
whole_first shape k room text mark body line front long =
    let found = picture_of shape (take (bytes_of shape) body) (length-take-le (bytes_of shape) body long) in
    let after = drop (bytes_of shape) body ++ drop room text in
    let parts : body ≡ picture_text found.0 ++ drop (bytes_of shape) body = sym (take-append-drop (bytes_of shape) body) ∙ ap (λ (z : List ℕ). z ++ drop (bytes_of shape) body) (sym found.2) in
    let whole : text ≡ mark ++ (picture_text found.0 ++ after) =
    sym (take-append-drop room text)
    ∙ (ap (λ (z : List ℕ). z ++ drop room text) (front ∙ ap (λ (z : List ℕ). mark ++ z) parts)
    ∙ (append_assoc mark (picture_text found.0 ++ drop (bytes_of shape) body) (drop room text) ∙ ap (λ (z : List ℕ). mark ++ z) (append_assoc (picture_text found.0) (drop (bytes_of shape) body) (drop room text)))) in
    Frame (record { shape = shape; planes = found.0; pts = pos k; duration = pos 1 }) mark after line (record { shape_is = refl; are_planes = found.1; pts = refl; duration = refl }) whole
    (let l = ap length (sym (take-append-drop room text)) ∙ length-append (take room text) (drop room text) in
    let m = length-append (drop (bytes_of shape) body) (drop room text) in let n = length-take room text in omega arith)

first_decided : (shape : Shape) (k room : ℕ) (text : List ℕ) → 0 < length text → HasFirst shape k room text
first_decided shape k room text some = elim (mark_decided (take room text)) [
  | Bad other ↦ Damaged (next.BadFrame k) (refl, λ can. other (can_mark_of shape (take room text) can))
  | Part part ↦ cut_short shape k room text some (can_begin-part shape (take room text) part) (no_frame-part shape (take room text) part)
  | Whole b ↦ elim (cases_lt (length b.rest) (bytes_of shape)) [
    | inr long ↦ whole_first shape k room text b.mark b.rest b.is_mark b.text_is long
    | inl short ↦ cut_short shape k room text some (subst (CanBeginFrame shape) (sym b.text_is) (can_begin-line shape b.mark b.rest b.is_mark (omega arith)))
        (subst (λ (t : List ℕ). ¬ BeginsFrame shape t) (sym b.text_is) (no_frame-line shape b.mark b.rest b.is_mark short))
  ]
]

-- ---- frames

-- the whole frames of a text, of which the first is the k-th, and then its end or damage
record HasOutcome (shape : Shape) (k room : ℕ) (text : List ℕ) : Type 0 where
  frames : List FrameValue
  rest : List ℕ
  are_frames : AreFramesThen shape k text frames rest
  within : length text ≤ room + length rest
  ends : (rest ≡ []) ⊎ ((e : NextError) × IsDamage shape (room - (length text - length rest)) (k + length frames) rest e)

-- one more frame before the others
more_frames : (shape : Shape) (k room : ℕ) (text mark after : List ℕ) (f : FrameValue) → IsMark mark → IsFrameAt shape k f → text ≡ mark ++ (picture_text f.planes ++ after) → length text ≤ room + length after
    → HasOutcome shape (k + 1) (room - (length mark + bytes_of shape)) after → HasOutcome shape k room text
more_frames shape k room text mark after f line is e within o =
    let long = length-first shape k f text mark after is e in
    let shorter = rest_shorter shape (k + 1) after o.frames o.rest o.are_frames in
    let left : (room - (length mark + bytes_of shape)) - (length after - length o.rest) ≡ room - (length text - length o.rest) = omega arith in
    let count : (k + 1) + length o.frames ≡ k + length (f ∷ o.frames) = omega arith in
    record {
      frames = f ∷ o.frames;
      rest = o.rest;
      are_frames = (mark, after, line, is, e, o.are_frames);
      within = let w = o.within in omega arith;
      ends = elim o.ends [
        | inl none ↦ inl none
        | inr d ↦ inr (d.0, subst (λ (n : ℕ). IsDamage shape (room - (length text - length o.rest)) n o.rest d.0) count (subst (λ (n : ℕ). IsDamage shape n ((k + 1) + length o.frames) o.rest d.0) left d.1))
      ];
    }

frames_decided : (shape : Shape) (n k room : ℕ) (text : List ℕ) → length text ≤ n → HasOutcome shape k room text
frames_decided shape n k room [] most = record { frames = []; rest = []; are_frames = refl; within = omega arith; ends = inl refl }
frames_decided shape zero k room (x ∷ text) most = absurd (omega arith)
frames_decided shape (suc n) k room (x ∷ text) most = elim (first_decided shape k room (x ∷ text) (omega arith)) [
  | Damaged e d ↦ record {
    frames = [];
    rest = x ∷ text;
    are_frames = refl;
    within = omega arith;
    ends = inr (e, subst (λ (m : ℕ). IsDamage shape m (k + 0) (x ∷ text) e) (let all : room ≡ room - (length (x ∷ text) - length (x ∷ text)) = omega arith in all) (subst (λ (m : ℕ). IsDamage shape room m (x ∷ text) e) (let same : k ≡ k + 0 = omega arith in same) d));
  }
  | Frame f mark after line is e within ↦ more_frames shape k room (x ∷ text) mark after f line is e within
      (frames_decided shape n (k + 1) (room - (length mark + bytes_of shape)) after (let long = length-first shape k f (x ∷ text) mark after is e in let some = length-mark line in omega arith))
]

-- ---- files

pub frames_some : (limit : ℕ) (bytes : List ℕ) (shape : Shape) → HasHead limit bytes shape → (r : Result (List FrameValue) (List FrameValue × NextError)) × FramesMean limit bytes shape r
frames_some limit bytes shape h =
    let line = h.line in
    let text = h.has_line.rest in
    let room = limit - (length line + 1) in
    let low = h.has_line.within in
    let all = ap length h.has_line.bytes_are ∙ length-append line (10 ∷ text) in
    let o = frames_decided shape (length text) 0 room text (omega arith) in
    let shorter = rest_shorter shape 0 text o.frames o.rest o.are_frames in
    let within : length bytes - length o.rest ≤ limit = let w = o.within in omega arith in
    elim o.ends [
      | inl none ↦ (Ok o.frames, subst (λ (t : List ℕ). BeginsFile limit bytes shape o.frames t) none (record { has_head = h; are_frames = o.are_frames; within = within }))
      | inr d ↦ (
        Err (o.frames, d.0),
        record {
          rest = o.rest;
          begins = record { has_head = h; are_frames = o.are_frames; within = within };
          is_damage = subst (λ (n : ℕ). IsDamage shape n (length o.frames) o.rest d.0) (let left : room - (length text - length o.rest) ≡ limit - (length bytes - length o.rest) = omega arith in left)
              (subst (λ (n : ℕ). IsDamage shape (room - (length text - length o.rest)) n o.rest d.0) (let count : 0 + length o.frames ≡ length o.frames = omega arith in count) d.1);
        },
      )
    ]
