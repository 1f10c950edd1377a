-- Pictures that are made of one picture.
use Rattle.std.specs.Prelude.{ℕ, refl}
use Rattle.av_base.specs.declared.shapes.Shape.{Shape}
use Rattle.av_frame.specs.Rasters.{sample_of}
use Rattle.av_frame.specs.Frames.{FrameValue, plane_at, planes_by}
use Rattle.av_frame.specs.Rules.{SameTimes}

-- the sample of a frame in plane p, row r and column c
abbrev pub sample : FrameValue → ℕ → ℕ → ℕ → ℕ
sample x p r c = sample_of (plane_at x.planes p) r c

-- the picture of a shape whose sample in plane p, row r and column c is `value x p r c`, shown when x is
abbrev pub painted : (FrameValue → ℕ → ℕ → ℕ → ℕ) → Shape → FrameValue → FrameValue
painted value out_shape x = record { shape = out_shape; planes = planes_by out_shape (value x); pts = x.pts; duration = x.duration }

-- the same in the frame's own shape
abbrev pub repainted : (FrameValue → ℕ → ℕ → ℕ → ℕ) → FrameValue → FrameValue
repainted value x = painted value x.shape x

pub painted_keeps : (value : FrameValue → ℕ → ℕ → ℕ → ℕ) (out_shape : Shape) (x : FrameValue) → SameTimes x (painted value out_shape x)
painted_keeps value out_shape x = record { pts = refl; duration = refl }

pub repainted_keeps : (value : FrameValue → ℕ → ℕ → ℕ → ℕ) (x : FrameValue) → SameTimes x (repainted value x)
repainted_keeps value x = record { pts = refl; duration = refl }
