-- New pictures: rows fit into the buffer, and a picture is sealed at the time of the frame that it was made of.
use Rattle.std.proofs.Common.{◌≡◌, ◌≤◌, ◌&&◌, Bool, true, false, if◌then◌else◌, ℕ, ℤ, refl, arith}
use Rattle.av_base.specs.Planes.{halves_columns, is_chroma, half_up}
use Rattle.av_base.specs.Shapes.{pixel_format_of, width_of, columns_of, IsPictured}
use Rattle.av_base.specs.declared.shapes.Shape.{Shape}
use Rattle.av_frame.specs.Frames.{FrameValue, EditValue, planes_by, blank_planes}
use Rattle.av_frame.specs.Pictures.{painted}

narrow : (b : Bool) (w : ℕ) → w ≤ 8192 → (if b then half_up w else w) ≤ 8192
narrow true w fits = omega arith
narrow false w fits = fits

-- a row of any plane fits into 8192 samples
pub row_fits : (s : Shape) → IsPictured s → (p : ℕ) → columns_of s p ≤ 8192
row_fits s pictured p = narrow (is_chroma p && halves_columns (pixel_format_of s.format)) (width_of s.props) pictured.limits.width

pub sealed : (value : FrameValue → ℕ → ℕ → ℕ → ℕ) (shape : Shape) (x y : FrameValue) (blank done : EditValue) (pts duration : ℤ)
    → blank ≡ record { shape = shape; planes = blank_planes shape } → done ≡ record blank { planes = planes_by blank.shape (value x) }
    → y ≡ record { shape = done.shape; planes = done.planes; pts = pts; duration = duration } → pts ≡ x.pts → duration ≡ x.duration → y ≡ painted value shape x
sealed value shape x y blank done pts duration b d s p q = rw (s, d, b, p, q) refl
