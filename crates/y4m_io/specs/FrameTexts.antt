-- Frames of YUV4MPEG2, as text. A frame is a line and its planes, which follow one another, each row by row.
use Rattle.std.specs.Prelude.{◌≡◌, ◌⊎◌, ◌+◌, ◌<◌, ◌≤◌, ℕ, pos, List, [], ◌∷◌, ◌++◌, map, take, length, codes, Contains}
use Rattle.std.specs.List.{concat}
use Rattle.av_base.specs.declared.shapes.Shape.{Shape}
use Rattle.av_base.specs.Bounds.{greatest_picture}
use Rattle.av_base.specs.Shapes.{bytes_of}
use Rattle.av_frame.specs.Rasters.{Raster}
use Rattle.av_frame.specs.Frames.{FrameValue, ArePlanes}
use Rattle.y4m_io.specs.Sizes.{longest_mark}

-- ---- the line that begins a frame

-- what each frame's line begins with
abbrev pub mark_word : List ℕ
mark_word = codes "FRAME"

-- nothing, or a space and any text
abbrev pub AreMarkParams : List ℕ → Type 0
AreMarkParams params = (params ≡ []) ⊎ ((text : List ℕ) × (params ≡ 32 ∷ text))

-- the line that begins a frame, with its line feed
pub record IsMark (line : List ℕ) : Type 0 where
  pub params : List ℕ
  pub line_is : line ≡ mark_word ++ (params ++ 10 ∷ [])
  pub are_params : AreMarkParams params
  pub no_feed : ¬ Contains params 10
  pub short : length line ≤ longest_mark

-- the line as it is written
abbrev pub frame_mark : List ℕ
frame_mark = mark_word ++ 10 ∷ []

-- ---- frames

-- the samples of the planes, row by row
abbrev pub picture_text : List Raster → List ℕ
picture_text planes = concat (map (λ x. concat x.rows) planes)

-- the text begins with a frame of the shape
pub record BeginsFrame (shape : Shape) (text : List ℕ) : Type 0 where
  pub mark : List ℕ
  pub planes : List Raster
  pub rest : List ℕ
  pub is_mark : IsMark mark
  pub are_planes : ArePlanes shape planes
  pub text_is : text ≡ mark ++ (picture_text planes ++ rest)

-- more text can follow so that it begins with a frame of the shape
abbrev pub CanBeginFrame : Shape → List ℕ → Type 0
CanBeginFrame shape text = (more : List ℕ) × BeginsFrame shape (text ++ more)

-- the k-th frame of a file of this shape
pub record IsFrameAt (shape : Shape) (k : ℕ) (f : FrameValue) : Type 0 where
  pub shape_is : f.shape ≡ shape
  pub are_planes : ArePlanes shape f.planes
  pub pts : f.pts ≡ pos k
  pub duration : f.duration ≡ pos 1

-- the text is that of whole frames of a file, of which the first is the k-th, and of a rest
abbrev pub AreFramesThen : Shape → ℕ → List ℕ → List FrameValue → List ℕ → Type 0
AreFramesThen shape k text [] rest = text ≡ rest
AreFramesThen shape k text (f ∷ fs) rest =
    (mark : List ℕ) × (after : List ℕ) × IsMark mark × IsFrameAt shape k f × (text ≡ mark ++ (picture_text f.planes ++ after)) × AreFramesThen shape (k + 1) after fs rest

-- ---- damage

-- A rest of a file, of which `room` bytes are within the limit, is damaged whatever follows them.
abbrev pub IsBadFrame : Shape → ℕ → List ℕ → Type 0
IsBadFrame shape room rest = ¬ CanBeginFrame shape (take room rest)

-- The rest is the beginning of a frame, and no more.
pub record IsTruncated (shape : Shape) (room : ℕ) (rest : List ℕ) : Type 0 where
  pub some : 0 < length rest
  pub within : length rest ≤ room
  pub can_begin : CanBeginFrame shape rest
  pub no_frame : ¬ BeginsFrame shape rest

-- The rest goes on past the limit, and no frame is whole within it.
pub record IsPastLimit (shape : Shape) (room : ℕ) (rest : List ℕ) : Type 0 where
  pub past : room < length rest
  pub can_begin : CanBeginFrame shape (take room rest)
  pub no_frame : ¬ BeginsFrame shape (take room rest)

-- ---- frames that are written

abbrev pub frame_text : List Raster → List ℕ
frame_text planes = frame_mark ++ picture_text planes

-- how many bytes each written frame of the shape has
abbrev pub frame_size : Shape → ℕ
frame_size shape = length frame_mark + bytes_of shape

-- how many bytes a written frame has at most
abbrev pub greatest_frame : ℕ
greatest_frame = length frame_mark + greatest_picture

abbrev pub frames_text : List FrameValue → List ℕ
frames_text frames = concat (map (λ f. frame_text f.planes) frames)
