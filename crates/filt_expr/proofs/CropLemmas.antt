-- The settings of crop.
use Rattle.std.proofs.Common.{◌≡◌, ◌-◌, ℕ, ℤ, ap}
use Rattle.std.specs.Prelude.{pos, unsigned_abs}
use Rattle.av_base.specs.Shapes.{width_of, height_of}
use Rattle.av_base.specs.declared.shapes.Shape.{Shape}
use Rattle.filt_expr.specs.Geometry.{on_grid, within}
use Rattle.filt_expr.specs.Crop.{grid_across, grid_down, crop_settings}
use Rattle.filt_expr.specs.declared.crop.CropOptions.{CropOptions}
use Rattle.filt_expr.specs.declared.crop.CropSettings.{CropSettings}

pub same_settings : (o : CropOptions) (s : Shape) (x y : ℤ) (across down : ℕ) (t : CropSettings) → across ≡ grid_across o s → down ≡ grid_down o s
    → pos t.x ≡ on_grid across (within (pos 0) (pos (width_of s.props - t.width)) x) → pos t.y ≡ on_grid down (within (pos 0) (pos (height_of s.props - t.height)) y)
    → t ≡ crop_settings o s t.width t.height x y
same_settings o s x y across down t a d ex ey =
    let x_is : t.x ≡ unsigned_abs (on_grid (grid_across o s) (within (pos 0) (pos (width_of s.props - t.width)) x)) = ap unsigned_abs (rw a at ex) in
    let y_is : t.y ≡ unsigned_abs (on_grid (grid_down o s) (within (pos 0) (pos (height_of s.props - t.height)) y)) = ap unsigned_abs (rw d at ey) in
    λ i. record { width = t.width; height = t.height; x = x_is i; y = y_is i }
