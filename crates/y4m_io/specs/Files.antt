-- Whole files of YUV4MPEG2: a header line and frames, of which only the bytes within a limit count.
use Rattle.std.specs.Prelude.{◌≡◌, ◌+◌, ◌-◌, ◌≤◌, ℕ, pos, List, [], ◌∷◌, ◌++◌, length, Result, Ok, Err}
use Rattle.av_base.specs.declared.shapes.Shape.{Shape}
use Rattle.av_frame.specs.Frames.{FrameValue, IsFrame}
use Rattle.av_frame.specs.declared.faults.HeadError.{HeadError}
use Rattle.av_frame.specs.declared.faults.NextError.{NextError}
use Rattle.av_frame.specs.declared.faults.NextError.TheVariants as next
use Rattle.y4m_header.specs.HeaderTexts.{IsWritable, header_text, read_shape}
use Rattle.y4m_io.specs.FrameTexts.{AreFramesThen, frames_text, IsBadFrame, IsTruncated, IsPastLimit}
use Rattle.y4m_io.specs.Heads.{HasHead, HeadMeans}

-- The bytes begin with the header of pictures of a shape and whole frames, all within the limit. A rest follows.
pub record BeginsFile (limit : ℕ) (bytes : List ℕ) (shape : Shape) (frames : List FrameValue) (rest : List ℕ) : Type 0 where
  pub has_head : HasHead limit bytes shape
  pub are_frames : AreFramesThen shape 0 has_head.has_line.rest frames rest
  pub within : length bytes - length rest ≤ limit

-- the bytes are a whole file of pictures of the shape, within the limit, and these are its frames
abbrev pub HasFrames : ℕ → List ℕ → Shape → List FrameValue → Type 0
HasFrames limit bytes shape frames = BeginsFile limit bytes shape frames []

-- the damage of the rest after these whole frames, of which `room` bytes are within the limit
abbrev pub IsDamage : Shape → ℕ → ℕ → List ℕ → NextError → Type 0
IsDamage shape room count rest (next.BadFrame k) = (k ≡ count) × IsBadFrame shape room rest
IsDamage shape room count rest (next.Truncated k) = (k ≡ count) × IsTruncated shape room rest
IsDamage shape room count rest next.TooLong = IsPastLimit shape room rest
IsDamage shape room count rest next.Host = ⊥
IsDamage shape room count rest next.NoMemory = ⊥

-- the bytes begin with a header and these whole frames, and what follows them is damaged
pub record HasDamage (limit : ℕ) (bytes : List ℕ) (shape : Shape) (frames : List FrameValue) (e : NextError) : Type 0 where
  pub rest : List ℕ
  pub begins : BeginsFile limit bytes shape frames rest
  pub is_damage : IsDamage shape (limit - (length bytes - length rest)) (length frames) rest e

-- what the frames of a file come to
abbrev pub FramesMean : ℕ → List ℕ → Shape → Result (List FrameValue) (List FrameValue × NextError) → Type 0
FramesMean limit bytes shape (Ok frames) = HasFrames limit bytes shape frames
FramesMean limit bytes shape (Err damage) = HasDamage limit bytes shape damage.0 damage.1

-- ---- files that are written

-- the text of a stream that goes on
abbrev pub open_text : Shape → List FrameValue → List ℕ
open_text shape frames = header_text shape ++ frames_text frames

-- the text of a stream that has ended: the open text, and an end, which is empty
abbrev pub whole_text : Shape → List FrameValue → List ℕ
whole_text shape frames = open_text shape frames

-- frames of one shape
abbrev pub AreFramesOf : Shape → List FrameValue → Type 0
AreFramesOf shape [] = Unit {0}
AreFramesOf shape (f ∷ fs) = ((f.shape ≡ shape) × IsFrame f) × AreFramesOf shape fs

-- written frames as they are read again: the same samples, frame k at the time k
abbrev pub read_frames : Shape → ℕ → List FrameValue → List FrameValue
read_frames shape k [] = []
read_frames shape k (f ∷ fs) = record { shape = read_shape shape; planes = f.planes; pts = pos k; duration = pos 1 } ∷ read_frames shape (k + 1) fs

-- ---- the law

-- The header of all bytes comes to one thing, always, and so do the frames after it. The whole text of written frames is
-- a file of these.
pub record FilesHaveOneOutcome : Type 0 where
  pub head : (limit : ℕ) (bytes : List ℕ) → (r : Result Shape HeadError) × HeadMeans limit bytes r
  pub one_head : (limit : ℕ) (bytes : List ℕ) (r t : Result Shape HeadError) → HeadMeans limit bytes r → HeadMeans limit bytes t → r ≡ t
  pub frames : (limit : ℕ) (bytes : List ℕ) (shape : Shape) → HasHead limit bytes shape → (r : Result (List FrameValue) (List FrameValue × NextError)) × FramesMean limit bytes shape r
  pub one_frames : (limit : ℕ) (bytes : List ℕ) (shape : Shape) (r t : Result (List FrameValue) (List FrameValue × NextError)) → FramesMean limit bytes shape r → FramesMean limit bytes shape t → r ≡ t
  pub written : (limit : ℕ) (shape : Shape) (frames : List FrameValue) → IsWritable shape → AreFramesOf shape frames → length (whole_text shape frames) ≤ limit
      → HasFrames limit (whole_text shape frames) (read_shape shape) (read_frames shape 0 frames)
