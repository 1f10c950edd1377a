-- The value of a frame: its shape, rows of samples by plane, and its time.
use Rattle.std.specs.Prelude.{◌≡◌, ◌<◌, ◌^◌, ℕ, ℤ, pos, neg_ℤ, ◌≤ℤ◌, List, map, length, slice_index_or, slice_set}
use Rattle.std.specs.List.{range_with_len}
use Rattle.av_base.specs.declared.shapes.Shape.{Shape}
use Rattle.av_base.specs.Shapes.{IsLawful, IsVideo, planes_of, columns_of, rows_of}
use Rattle.av_frame.specs.Rasters.{Raster, IsRaster, row_of, sample_of, blank_raster, raster_by}
use Rattle.av_base.specs.Bounds.{greatest_time}

-- A frame that stays as it is. Its pts and duration are in ticks of the shape's time base.
pub record FrameValue : Type 0 where
  pub shape : Shape
  pub planes : List Raster
  pub pts : ℤ
  pub duration : ℤ

-- A frame that is being made, and has no time yet.
pub record EditValue : Type 0 where
  pub shape : Shape
  pub planes : List Raster

abbrev pub plane_at : List Raster → ℕ → Raster
plane_at planes p = slice_index_or planes p (blank_raster 0 0)

-- the planes with this row in place of one
abbrev pub with_row : List Raster → ℕ → ℕ → List ℕ → List Raster
with_row planes p r row = slice_set planes p (record (plane_at planes p) { rows = slice_set (plane_at planes p).rows r row })

-- the planes with this sample in place of one
abbrev pub with_sample : List Raster → ℕ → ℕ → ℕ → ℕ → List Raster
with_sample planes p r c sample = with_row planes p r (slice_set (row_of (plane_at planes p) r) c sample)

-- the planes are those of a picture of the shape
pub record ArePlanes (shape : Shape) (planes : List Raster) : Type 0 where
  pub count : length planes ≡ planes_of shape
  pub width : (p : ℕ) → p < planes_of shape → (plane_at planes p).width ≡ columns_of shape p
  pub height : (p : ℕ) → p < planes_of shape → (plane_at planes p).height ≡ rows_of shape p
  pub rows : (p : ℕ) → p < planes_of shape → IsRaster (plane_at planes p)

-- a picture of a lawful shape, of samples of eight bits
pub record IsPicture (shape : Shape) (planes : List Raster) : Type 0 where
  pub lawful : IsLawful shape
  pub video : IsVideo shape.format
  pub sizes : ArePlanes shape planes
  pub samples : (p r c : ℕ) → sample_of (plane_at planes p) r c < 256

-- a timestamp within 2^62
abbrev pub IsPts : ℤ → Type 0
IsPts pts = (neg_ℤ (pos greatest_time) ≤ℤ pts) × (pts ≤ℤ pos greatest_time)

-- a duration of at least one tick and at most 2^62
abbrev pub IsDuration : ℤ → Type 0
IsDuration duration = (pos 1 ≤ℤ duration) × (duration ≤ℤ pos greatest_time)

-- what holds of every frame
pub record IsFrame (f : FrameValue) : Type 0 where
  pub picture : IsPicture f.shape f.planes
  pub pts : IsPts f.pts
  pub duration : IsDuration f.duration

-- the planes of a picture of the shape whose sample in plane p, row r and column c is f p r c
abbrev pub planes_by : Shape → (ℕ → ℕ → ℕ → ℕ) → List Raster
planes_by shape f = map (λ p. raster_by (columns_of shape p) (rows_of shape p) (f p)) (range_with_len 0 (planes_of shape))

-- the planes of a picture of the shape whose samples are 0
abbrev pub blank_planes : Shape → List Raster
blank_planes shape = map (λ p. blank_raster (columns_of shape p) (rows_of shape p)) (range_with_len 0 (planes_of shape))
