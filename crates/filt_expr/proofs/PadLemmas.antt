-- Areas around pictures and their colours.
use Rattle.std.proofs.Common.{◌≡◌, ◌-◌, ℕ, ℤ, Bool, true, false, sym, ◌∙◌, ap, subst, refl}
use Rattle.std.specs.Prelude.{pos, ◌+ℤ◌, ◌≤ℤ◌, unsigned_abs, if◌then◌else◌}
use Rattle.av_base.specs.Shapes.{width_of, height_of}
use Rattle.av_base.specs.declared.shapes.Shape.{Shape}
use Rattle.av_frame.specs.Grid.{step_across, step_down}
use Rattle.av_frame.specs.declared.refusals.ConfigError.{ConfigError}
use Rattle.av_frame.specs.declared.refusals.ConfigError.TheVariants.{BadGeometry}
use Rattle.filt_expr.specs.Geometry.{on_grid, shown}
use Rattle.filt_expr.specs.Colours.{colour_in}
use Rattle.filt_expr.specs.Pad.{or_middle, placed, EndsIn, pad_settings, padded}
use Rattle.filt_expr.specs.Paste.{is_among}
use Rattle.filt_expr.specs.declared.colour.Colour.{Colour}
use Rattle.filt_expr.specs.declared.pad.PadOptions.{PadOptions}
use Rattle.filt_expr.specs.declared.pad.PadSettings.{PadSettings}
use Rattle.av_base.specs.Shapes.{rows_of, columns_of}
use Rattle.av_frame.specs.Frames.{FrameValue}
use Rattle.av_frame.specs.Pictures.{sample}
use Rattle.av_frame.specs.Grid.{row_in, column_in}
use Rattle.filt_expr.proofs.GeometryLemmas.{place_low}

-- ---- places

pub place_is : (step input : ℕ) (start mid side asked : ℤ) → start ≡ on_grid step mid → mid ≡ or_middle input side asked → pos 0 ≤ℤ mid → EndsIn input side start
    → (pos (unsigned_abs start) ≡ placed step input side asked) × EndsIn input side (placed step input side asked)
place_is step input start mid side asked at middle low fits =
    let n = place_low step mid low in
    let is : start ≡ pos n.0 = at ∙ n.1 in
    let whole : pos (unsigned_abs start) ≡ start = ap (λ (z : ℤ). pos (unsigned_abs z)) is ∙ sym is in
    let place = at ∙ ap (on_grid step) middle in
    (whole ∙ place, subst (EndsIn input side) place fits)

pub place_bad : (step input : ℕ) (start mid side asked : ℤ) (e : ConfigError) → start ≡ on_grid step mid → mid ≡ or_middle input side asked → ¬ EndsIn input side start
    → e ≡ BadGeometry (shown (start +ℤ pos input)) (shown side)
    → (¬ EndsIn input side (placed step input side asked)) × (e ≡ BadGeometry (shown (placed step input side asked +ℤ pos input)) (shown side))
place_bad step input start mid side asked e at middle past error =
    let is : placed step input side asked ≡ start = sym (at ∙ ap (on_grid step) middle) in
    (rw is past, rw is error)

pub never : false ≡ true → ⊥
never e = cc

-- ---- settings

pub same_settings : (o : PadOptions) (s : Shape) (x y : ℤ) (t : PadSettings) → pos t.x ≡ placed (step_across s) (width_of s.props) (pos t.width) x → pos t.y ≡ placed (step_down s) (height_of s.props) (pos t.height) y
    → t.color ≡ o.color → t ≡ pad_settings o s t.width t.height x y
same_settings o s x y t ex ey color =
    let x_is : t.x ≡ unsigned_abs (placed (step_across s) (width_of s.props) (pos t.width) x) = ap unsigned_abs ex in
    let y_is : t.y ≡ unsigned_abs (placed (step_down s) (height_of s.props) (pos t.height) y) = ap unsigned_abs ey in
    λ i. record { width = t.width; height = t.height; x = x_is i; y = y_is i; color = color i }

-- ---- rows of padded pictures

or_blank : (q : Bool) (u old blank : ℕ) → (q ≡ false → old ≡ blank) → (if q then u else old) ≡ (if q then u else blank)
or_blank true u old blank h = refl
or_blank false u old blank h = h refl

pub row_inside : (f : FrameValue) (p r c x y : ℕ) (colour : Colour) (top left rows v old : ℕ) → top ≡ row_in f.shape p y → left ≡ column_in f.shape p x → rows ≡ rows_of f.shape p
    → is_among top rows r ≡ true → v ≡ (if is_among left (columns_of f.shape p) c then sample f p (r - top) (c - left) else old)
    → (is_among left (columns_of f.shape p) c ≡ false → old ≡ colour_in colour p) → v ≡ padded x y colour f p r c
row_inside f p r c x y colour top left rows v old t l n among is blank =
    let there : is_among (row_in f.shape p y) (rows_of f.shape p) r ≡ true = rw (t, n) at among in
    rw there (rw (t, l) at (is ∙ or_blank (is_among left (columns_of f.shape p) c) (sample f p (r - top) (c - left)) old (colour_in colour p) blank))

pub row_outside : (f : FrameValue) (p r c x y : ℕ) (colour : Colour) (top rows v : ℕ) → top ≡ row_in f.shape p y → rows ≡ rows_of f.shape p
    → is_among top rows r ≡ false → v ≡ colour_in colour p → v ≡ padded x y colour f p r c
row_outside f p r c x y colour top rows v t n among is =
    let there : is_among (row_in f.shape p y) (rows_of f.shape p) r ≡ false = rw (t, n) at among in
    rw there is
