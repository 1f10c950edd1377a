-- Pictures with an area around them (FFmpeg Filters Documentation, pad; the form `yuv/Y/U/V` of colours, sizes that aren't
-- rounded and the order of the checks are this project's own).
use Rattle.std.specs.Prelude.{◌≡◌, ◌-◌, ◌&&◌, ℕ, ℤ, zero, suc, pos, negsuc, unsigned_abs, ◌+ℤ◌, ◌-ℤ◌, ◌≤ℤ◌, List, [], ◌∷◌, Result, Ok, Err, codes, if◌then◌else◌}
use Rattle.std.specs.Int.{int_div_euclid}
use Rattle.av_base.specs.Shapes.{width_of, height_of, rows_of, columns_of}
use Rattle.av_base.specs.declared.shapes.Shape.{Shape}
use Rattle.av_expr.specs.Trees.{Tree}
use Rattle.av_expr.specs.declared.vars.Var.{Var}
use Rattle.av_expr.specs.declared.fraction.Fraction.{Fraction}
use Rattle.av_frame.specs.Frames.{FrameValue}
use Rattle.av_frame.specs.Grid.{step_across, step_down, column_in, row_in}
use Rattle.av_filter.specs.Forms.{Form, rules_of}
use Rattle.av_filter.specs.Limits.{AfterLimits}
use Rattle.av_filter.specs.Meanings.{OptionRules, is_complete, Making, Meaning}
use Rattle.av_filter.specs.Outcomes.{AfterValue, AfterCheck, AfterSizes}
use Rattle.av_frame.specs.Pictures.{sample, painted}
use Rattle.av_frame.specs.declared.refusals.ConfigError.{ConfigError}
use Rattle.av_frame.specs.declared.refusals.ConfigError.TheVariants.{NoValue, BadGeometry}
use Rattle.filt_expr.specs.Worth.{expr_form, IsWorthless}
use Rattle.filt_expr.specs.Geometry.{on_grid, shown, resized, sizes}
use Rattle.filt_expr.specs.declared.worth.Role.TheVariants.{Width, Height, Place}
use Rattle.filt_expr.specs.declared.colour.Colour.{Colour}
use Rattle.filt_expr.specs.declared.pad.PadOptions.{PadOptions}
use Rattle.filt_expr.specs.declared.pad.PadSettings.{PadSettings}
use Rattle.filt_expr.specs.Colours.{MeansColour, colour_in}
use Rattle.filt_expr.specs.Paste.{is_among}
use Rattle.filt_expr.specs.Rounding.{IsCutValue, AfterCut}

-- ---- options

abbrev pub pad_names : List (List ℕ × ℕ)
pad_names = (codes "width", 0) ∷ (codes "w", 0) ∷ (codes "height", 1) ∷ (codes "h", 1) ∷ (codes "x", 2) ∷ (codes "y", 3) ∷ (codes "color", 4) ∷ []

abbrev pub pad_forms : List (Form PadOptions)
pad_forms =
    expr_form Width (codes "iw") (λ o. o.width)
    ∷ expr_form Height (codes "ih") (λ o. o.height)
    ∷ expr_form Place (codes "0") (λ o. o.x)
    ∷ expr_form Place (codes "0") (λ o. o.y)
    ∷ record { Value = Colour; means = MeansColour; default = codes "black"; value = λ o. o.color }
    ∷ []

-- ---- the picture

-- out(p, r, c) = in(p, r - (y >> vs), c - (x >> hs)) where that lies in the input's plane, else the colour
abbrev pub padded : ℕ → ℕ → Colour → FrameValue → ℕ → ℕ → ℕ → ℕ
padded x y colour f p r c =
    if is_among (row_in f.shape p y) (rows_of f.shape p) r && is_among (column_in f.shape p x) (columns_of f.shape p) c
    then sample f p (r - row_in f.shape p y) (c - column_in f.shape p x)
    else colour_in colour p

-- ---- the settings

-- 0 means the input's size
abbrev pub or_input : ℕ → ℤ → ℤ
or_input n (pos zero) = pos n
or_input n (pos (suc m)) = pos (suc m)
or_input n (negsuc m) = negsuc m

-- the size of the output that is asked for
pub record AsksSide (tree : Tree) (variables : Var → Fraction) (input : ℕ) (side : ℤ) : Type 0 where
  pub z : ℤ
  pub value : IsCutValue tree variables z
  pub side_is : side ≡ or_input input z

-- a place that is negative is in the middle
abbrev pub or_middle : ℕ → ℤ → ℤ → ℤ
or_middle n side (pos m) = pos m
or_middle n side (negsuc m) = int_div_euclid (side -ℤ pos n) (pos 2)

-- the place, rounded down to the grid
abbrev pub placed : ℕ → ℕ → ℤ → ℤ → ℤ
placed step n side place = on_grid step (or_middle n side place)

-- where the input begins
abbrev pub column_at : Shape → ℤ → ℤ → ℤ
column_at s w x = placed (step_across s) (width_of s.props) w x

abbrev pub row_at : Shape → ℤ → ℤ → ℤ
row_at s h y = placed (step_down s) (height_of s.props) h y

-- the input's side of n, from a place on, ends within the output's
abbrev pub EndsIn : ℕ → ℤ → ℤ → Type 0
EndsIn n side place = (place +ℤ pos n) ≤ℤ side

-- the step that takes the side that is asked for
abbrev pub AfterSide : {R : Type 0} → Tree → (Var → Fraction) → ℕ → ℕ → (ℤ → Result R ConfigError → Type 0) → Result R ConfigError → Type 0
AfterSide tree variables input option = AfterValue (IsWorthless tree variables) (Err (NoValue option)) (AsksSide tree variables input)

-- the step that checks that a side of the output isn't less than that of the input, of n samples
abbrev pub AfterRoom : {R : Type 0} → ℕ → ℤ → (Result R ConfigError → Type 0) → Result R ConfigError → Type 0
AfterRoom n side = AfterCheck (pos n ≤ℤ side) (Err (BadGeometry (shown side) (shown (pos n))))

-- the step that checks that the input ends within the output
abbrev pub AfterPlace : {R : Type 0} → ℕ → ℤ → ℤ → (Result R ConfigError → Type 0) → Result R ConfigError → Type 0
AfterPlace n side place = AfterCheck (EndsIn n side place) (Err (BadGeometry (shown (place +ℤ pos n)) (shown side)))

abbrev pub pad_settings : PadOptions → Shape → ℕ → ℕ → ℤ → ℤ → PadSettings
pad_settings o s w h x y = record {
  width = w;
  height = h;
  x = unsigned_abs (column_at s (pos w) x);
  y = unsigned_abs (row_at s (pos h) y);
  color = o.color;
}

-- where the size and the place are known: there is room in the width, then in the height, the input ends within the
-- output, by column and then by row, and then the limits are kept
abbrev pub pad_checks : PadOptions → Shape → ℤ → ℤ → ℤ → ℤ → Result PadSettings ConfigError → Type 0
pad_checks o s w h x y =
    AfterRoom (width_of s.props) w (
    AfterRoom (height_of s.props) h (
    AfterPlace (width_of s.props) w (column_at s w x) (
    AfterPlace (height_of s.props) h (row_at s h y) (
    AfterSizes w h (λ m n.
    AfterLimits s m n (λ r. r ≡ Ok (pad_settings o s m n x y)))))))

-- where the size is known: the place
abbrev pub pad_places : PadOptions → Shape → ℤ → ℤ → Result PadSettings ConfigError → Type 0
pad_places o s w h =
    AfterCut o.x (sizes s w h) 2 (λ x.
    AfterCut o.y (sizes s w h) 3 (λ y.
    pad_checks o s w h x y))

-- the width is known first, then the height
unfoldable pub pad_outcome : PadOptions → Shape → Result PadSettings ConfigError → Type 0
pad_outcome o s =
    AfterSide o.width (sizes s (pos 0) (pos 0)) (width_of s.props) 0 (λ w.
    AfterSide o.height (sizes s w (pos 0)) (height_of s.props) 1 (λ h.
    pad_places o s w h))

-- ---- the filter

abbrev pub pad_rules : OptionRules PadOptions
pad_rules = rules_of pad_names pad_forms is_complete

abbrev pub pad_making : Making PadOptions PadSettings
pad_making = record {
  takes = λ o f. Unit {0};
  settles = pad_outcome;
  shape = λ t. resized t.width t.height;
  made = λ t x. painted (padded t.x t.y t.color) (resized t.width t.height x.shape) x;
}

abbrev pub pad : Meaning
pad = record { Options = PadOptions; Settings = PadSettings; name = codes "pad"; options = pad_rules; making = pad_making }
