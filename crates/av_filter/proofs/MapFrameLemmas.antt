-- Frames whose rows are mapped in place.
use Rattle.std.proofs.Common.{◌≡◌, ℕ, ℤ, List, refl}
use Rattle.av_frame.specs.Frames.{EditValue, FrameValue, plane_at, planes_by}
use Rattle.av_frame.specs.Pictures.{repainted}
use Rattle.av_frame.specs.Rasters.{row_of}

-- the frame that was edited and sealed at its own time
pub mapped : (value : ℕ → List ℕ → ℕ → ℕ) (frame y : FrameValue) (before after : EditValue) (pts duration : ℤ)
    → y ≡ record { shape = after.shape; planes = after.planes; pts = pts; duration = duration }
    → after ≡ record before { planes = planes_by before.shape (λ p r c. value p (row_of (plane_at before.planes p) r) c) }
    → before ≡ record { shape = frame.shape; planes = frame.planes } → pts ≡ frame.pts → duration ≡ frame.duration
    → y ≡ repainted (λ x p r c. value p (row_of (plane_at x.planes p) r) c) frame
mapped value frame y before after pts duration a b c d e = rw (a, b, c, d, e) refl
