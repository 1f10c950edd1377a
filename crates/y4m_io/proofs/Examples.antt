-- What the crates above know of files: their law, and examples of each fault and each damage.
use Rattle.std.proofs.Common.{◌≡◌, ◌<◌, ◌≤◌, ◌+◌, ◌-◌, ◌++◌, ℕ, min, List, [], ◌∷◌, take, drop, length, replicate, codes, refl, sym, ◌∙◌, ap, subst, arith, inl, inr, length-append}
use Rattle.std.proofs.lemmas.Bool.{cases_lt}
use Rattle.std.proofs.lemmas.List.{take-append-le, take-append-drop, append_cancel_left, length-take-le, length-replicate}
use Rattle.std.proofs.Math.Seq.{take-append-add}
use Rattle.av_base.specs.declared.shapes.Shape.{Shape}
use Rattle.av_base.specs.Shapes.{IsPictured, bytes_of}
use Rattle.av_frame.specs.Frames.{FrameValue}
use Rattle.av_frame.specs.declared.faults.HeadError.TheVariants as head
use Rattle.av_frame.specs.declared.faults.NextError.{NextError}
use Rattle.av_frame.specs.declared.faults.NextError.TheVariants as next
use Rattle.y4m_header.specs.Params.{Param}
use Rattle.y4m_header.specs.Said.{magic, Colour}
use Rattle.y4m_header.specs.HeaderLaws.{longest_line}
use Rattle.y4m_header.specs.declared.fault.HeaderFault.TheVariants as header
use Rattle.y4m_header.proofs.LawLemmas.{meaning_pictured}
use Rattle.y4m_io.specs.FrameTexts.{mark_word, picture_text, IsMark, IsPastLimit, AreFramesThen}
use Rattle.y4m_io.specs.Pieces.{IsMarkPart}
use Rattle.y4m_io.specs.Heads.{HasHead, IsHeadFault, Line, Other, Endless}
use Rattle.y4m_io.specs.Files.{IsDamage, FilesHaveOneOutcome}
use Rattle.y4m_io.specs.Reading.{IsPlaced}
use Rattle.y4m_io.proofs.DecidedLemmas.{frames_some}
use Rattle.y4m_io.proofs.FrameLemmas.{can_begin-part, can_begin-line, no_frame-part, no_frame-line, bad_frame}
use Rattle.y4m_io.proofs.FrameRuns.{AreFramesThen-rest}
use Rattle.y4m_io.proofs.HeadLaws.{head_some, one_head}
use Rattle.y4m_io.proofs.LawLemmas.{one_frames}
use Rattle.y4m_io.proofs.LineLemmas.{no_feed_front, no_feed_test}
use Rattle.y4m_io.proofs.MarkLemmas.{mark_unique, written_mark, no_front, spaced_whole}
use Rattle.y4m_io.proofs.WrittenLemmas.{written_again}

-- ---- the law

pub files_law : FilesHaveOneOutcome
files_law = record { head = head_some; one_head = one_head; frames = frames_some; one_frames = one_frames; written = written_again }

pub head_pictured : (limit : ℕ) (bytes : List ℕ) (s : Shape) → HasHead limit bytes s → IsPictured s
head_pictured limit bytes s head = meaning_pictured head.line s head.means

-- ---- examples of headers

pub some_not_media : (limit : ℕ) → longest_line ≤ limit → (x : List ℕ) × IsHeadFault limit x head.NotMedia
some_not_media limit long = ([], Other (record { no_line = no_feed_front (min limit longest_line) [] (no_feed_test [] refl); ends = inl (omega arith) }) (λ rest e. absurd cc))

pub some_bad_header : (limit : ℕ) → longest_line ≤ limit → (x : List ℕ) × IsHeadFault limit x head.BadHeader
some_bad_header limit long = (magic, Endless (record { no_line = no_feed_front (min limit longest_line) magic (no_feed_test magic refl); ends = inl (omega arith) }) [] refl)

abbrev colour_line : List ℕ
colour_line = codes "YUV4MPEG2 W1 H1 Cx"

abbrev colour_params : List Param
colour_params = (record { letter = 87; value = codes "1" }) ∷ (record { letter = 72; value = codes "1" }) ∷ (record { letter = 67; value = codes "x" }) ∷ []

pub some_bad_colour : (limit : ℕ) → longest_line ≤ limit → (x : List ℕ) × IsHeadFault limit x head.BadColour
some_bad_colour limit long = (
  colour_line ++ 10 ∷ [],
  Line colour_line header.BadColour (record { rest = []; bytes_are = refl; no_feed = no_feed_test colour_line refl; short = omega arith; within = omega arith })
      (Colour (codes " W1 H1 Cx") colour_params refl refl refl),
)

-- ---- examples of damage

-- a frame's line of 256 bytes
abbrev long_front : List ℕ
long_front = mark_word ++ 32 ∷ replicate 249 32

abbrev long_line : List ℕ
long_line = long_front ++ 10 ∷ []

is_long_line : IsMark long_line
is_long_line = spaced_whole (replicate 249 32) (no_feed_test long_front refl) (omega arith)

-- a beginning of it
long_part : (room : ℕ) → room < 256 → IsMarkPart (take room long_line)
long_part room less =
    let whole = take-append-drop room long_line in
    record {
      more = drop room long_line;
      some = let all = ap length whole ∙ refl in let long = length-append (take room long_line) (drop room long_line) in let short = length-take-le room long_line (omega arith) in omega arith;
      is_mark = subst IsMark (sym whole) is_long_line;
    }

-- it and more zeros than a picture has
abbrev too_long : Shape → List ℕ
too_long shape = long_line ++ replicate (bytes_of shape + 1) 0

past_limit : (shape : Shape) (room : ℕ) → room < 256 + bytes_of shape → IsPastLimit shape room (too_long shape)
past_limit shape room less = elim (cases_lt room 256) [
  | inl early ↦
      let front : take room (too_long shape) ≡ take room long_line = take-append-le room long_line (replicate (bytes_of shape + 1) 0) (omega arith) in
      record {
        past = past;
        can_begin = rw front (can_begin-part shape (take room long_line) (long_part room early));
        no_frame = rw front (no_frame-part shape (take room long_line) (long_part room early));
      }
  | inr late ↦
      let zeros = replicate (bytes_of shape + 1) 0 in
      let got = take (room - 256) zeros in
      let all = length-replicate {A = ℕ} (bytes_of shape + 1) 0 in
      let size : length got ≡ room - 256 = length-take-le (room - 256) zeros (omega arith) in
      let front : take room (too_long shape) ≡ long_line ++ got = ap (λ (n : ℕ). take n (too_long shape)) (let e : room ≡ length long_line + (room - 256) = omega arith in e) ∙ take-append-add long_line zeros (room - 256) in
      record {
        past = past;
        can_begin = rw front (can_begin-line shape long_line got is_long_line (omega arith));
        no_frame = rw front (no_frame-line shape long_line got is_long_line (omega arith));
      }
]
  where
    past : room < length (too_long shape)
    past = let all = length-append long_line (replicate (bytes_of shape + 1) 0) in let zeros = length-replicate {A = ℕ} (bytes_of shape + 1) 0 in omega arith

-- the first byte of a frame's line
first_part : IsMarkPart (70 ∷ [])
first_part = record { more = codes "RAME" ++ 10 ∷ []; some = omega arith; is_mark = written_mark }

pub some_damage : (shape : Shape) → IsPictured shape → (room count : ℕ) (e : NextError) → IsPlaced shape room count e → (rest : List ℕ) × IsDamage shape room count rest e
some_damage shape pictured room count (next.BadFrame k) placed =
    (0 ∷ [], (placed.0, bad_frame shape room (0 ∷ []) (0 ∷ []) [] refl (let some = placed.1 in omega arith) (no_front (0 ∷ []) (omega arith) (λ b. let e = b.1 in cc) (λ b. let e = b.1 in cc))))
some_damage shape pictured room count (next.Truncated k) placed = (
  70 ∷ [],
  (placed.0, record { some = omega arith; within = let some = placed.1 in omega arith; can_begin = can_begin-part shape (70 ∷ []) first_part; no_frame = no_frame-part shape (70 ∷ []) first_part }),
)
some_damage shape pictured room count next.TooLong placed = (too_long shape, past_limit shape room placed)
some_damage shape pictured room count next.Host placed = absurd placed
some_damage shape pictured room count next.NoMemory placed = absurd placed

-- ---- rests

-- the same frames of a text leave the same rest
then_same : (shape : Shape) (k : ℕ) (text : List ℕ) (frames : List FrameValue) (r s : List ℕ) → AreFramesThen shape k text frames r → AreFramesThen shape k text frames s → r ≡ s
then_same shape k text [] r s a b = sym a ∙ b
then_same shape k text (f ∷ fs) r s (mark, after, is_mark, at, e, more) (other, later, is_other, is_at, h, others) =
    let both = sym e ∙ h in
    let line : mark ≡ other = mark_unique (picture_text f.planes ++ after) (picture_text f.planes ++ later) is_mark is_other both in
    let body : picture_text f.planes ++ after ≡ picture_text f.planes ++ later = append_cancel_left other (picture_text f.planes ++ after) (picture_text f.planes ++ later) (ap (λ (z : List ℕ). z ++ (picture_text f.planes ++ after)) (sym line) ∙ both) in
    let rest : after ≡ later = append_cancel_left (picture_text f.planes) after later body in
    then_same shape (k + 1) later fs r s (subst (λ (z : List ℕ). AreFramesThen shape (k + 1) z fs r) rest more) others

-- frames within a room are so in each text that begins with them
pub then_within : (shape : Shape) (room k : ℕ) (got : List ℕ) (frames : List FrameValue) (text rest : List ℕ) → AreFramesThen shape k got frames [] → AreFramesThen shape k text frames rest → length got ≤ room
    → (x : List ℕ) → text ≡ got ++ x → length text - length rest ≤ room
then_within shape room k got frames text rest a b within x e =
    let same = ap length (then_same shape k text frames rest x b (subst (λ (z : List ℕ). AreFramesThen shape k z frames x) (sym e) (AreFramesThen-rest shape k got frames x a))) in
    let all = ap length e ∙ length-append got x in
    omega arith
