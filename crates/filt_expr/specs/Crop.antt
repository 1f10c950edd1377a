-- Parts of pictures (FFmpeg Filters Documentation, crop; the order of the steps is this project's own).
use Rattle.std.specs.Prelude.{◌≡◌, ◌+◌, ◌-◌, ℕ, ℤ, pos, unsigned_abs, List, [], ◌∷◌, Result, Ok, codes, if◌then◌else◌}
use Rattle.av_base.specs.Shapes.{width_of, height_of}
use Rattle.av_base.specs.declared.shapes.Shape.{Shape}
use Rattle.av_frame.specs.Frames.{FrameValue}
use Rattle.av_frame.specs.Grid.{step_across, step_down, column_in, row_in}
use Rattle.av_filter.specs.Limits.{AfterLimits}
use Rattle.av_filter.specs.Meanings.{OptionRules, is_complete, Making, Meaning}
use Rattle.av_filter.specs.Options.{flags}
use Rattle.av_filter.specs.Outcomes.{AfterSizes}
use Rattle.av_frame.specs.Pictures.{sample, painted}
use Rattle.av_filter.specs.Forms.{Form, rules_of, word_form, only_form}
use Rattle.av_frame.specs.declared.refusals.ConfigError.{ConfigError}
use Rattle.filt_expr.specs.Worth.{expr_form}
use Rattle.filt_expr.specs.Geometry.{on_grid, within, resized, sizes}
use Rattle.filt_expr.specs.declared.worth.Role.TheVariants.{Width, Height, Place}
use Rattle.filt_expr.specs.declared.crop.CropOptions.{CropOptions}
use Rattle.filt_expr.specs.declared.crop.CropSettings.{CropSettings}
use Rattle.filt_expr.specs.Rounding.{AfterRounded, AfterFit}

-- ---- options

abbrev pub crop_names : List (List ℕ × ℕ)
crop_names = (codes "out_w", 0) ∷ (codes "w", 0) ∷ (codes "out_h", 1) ∷ (codes "h", 1) ∷ (codes "x", 2) ∷ (codes "y", 3)
    ∷ (codes "keep_aspect", 4) ∷ (codes "exact", 5) ∷ []

-- `keep_aspect` takes 0 alone
abbrev pub crop_forms : List (Form CropOptions)
crop_forms =
    expr_form Width (codes "iw") (λ o. o.out_w)
    ∷ expr_form Height (codes "ih") (λ o. o.out_h)
    ∷ expr_form Place (codes "(iw-ow)/2") (λ o. o.x)
    ∷ expr_form Place (codes "(ih-oh)/2") (λ o. o.y)
    ∷ only_form (codes "0")
    ∷ word_form flags (codes "0") (λ o. o.exact)
    ∷ []

abbrev pub crop_rules : OptionRules CropOptions
crop_rules = rules_of crop_names crop_forms is_complete

-- ---- the picture

-- out(p, r, c) = in(p, r + (y >> vs), c + (x >> hs))
abbrev pub cropped : ℕ → ℕ → FrameValue → ℕ → ℕ → ℕ → ℕ
cropped x y f p r c = sample f p (row_in f.shape p y + r) (column_in f.shape p x + c)

-- ---- the settings

-- the steps of the grid; without one each step is 1
abbrev pub grid_across : CropOptions → Shape → ℕ
grid_across o s = if o.exact then 1 else step_across s

abbrev pub grid_down : CropOptions → Shape → ℕ
grid_down o s = if o.exact then 1 else step_down s

-- the place, brought into what is left of the input, and then down to the grid
abbrev pub crop_settings : CropOptions → Shape → ℕ → ℕ → ℤ → ℤ → CropSettings
crop_settings o s w h x y = record {
  width = w;
  height = h;
  x = unsigned_abs (on_grid (grid_across o s) (within (pos 0) (pos (width_of s.props - w)) x));
  y = unsigned_abs (on_grid (grid_down o s) (within (pos 0) (pos (height_of s.props - h)) y));
}

-- where the size and the place are known: the width fits, then the height, and then the limits are kept
abbrev pub crop_checks : CropOptions → Shape → ℤ → ℤ → ℤ → ℤ → Result CropSettings ConfigError → Type 0
crop_checks o s w h x y =
    AfterFit (width_of s.props) w (
    AfterFit (height_of s.props) h (
    AfterSizes w h (λ m n.
    AfterLimits s m n (λ r. r ≡ Ok (crop_settings o s m n x y)))))

-- the width is known first, then the height, then the place
unfoldable pub crop_outcome : CropOptions → Shape → Result CropSettings ConfigError → Type 0
crop_outcome o s =
    AfterRounded o.out_w (sizes s (pos 0) (pos 0)) (grid_across o s) 0 (λ w.
    AfterRounded o.out_h (sizes s w (pos 0)) (grid_down o s) 1 (λ h.
    AfterRounded o.x (sizes s w h) 1 2 (λ x.
    AfterRounded o.y (sizes s w h) 1 3 (λ y.
    crop_checks o s w h x y))))

abbrev pub crop_making : Making CropOptions CropSettings
crop_making = record {
  takes = λ o f. Unit {0};
  settles = crop_outcome;
  shape = λ t. resized t.width t.height;
  made = λ t x. painted (cropped t.x t.y) (resized t.width t.height x.shape) x;
}

abbrev pub crop : Meaning
crop = record { Options = CropOptions; Settings = CropSettings; name = codes "crop"; options = crop_rules; making = crop_making }
