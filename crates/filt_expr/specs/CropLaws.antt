-- What is shown of crop: that its outcome is exactly one, and that the part that is kept lies in the picture.
use Rattle.std.specs.Prelude.{◌≡◌, ◌<◌, ◌≤◌, ◌+◌, ◌-◌, false, ℕ, ℤ, pos, unsigned_abs, List, Ok, Err, codes, refl}
use Rattle.std.proofs.Common.{inl, sym, ap, arith}
use Rattle.std.proofs.lemmas.Int.{ints}
use Rattle.av_base.specs.Shapes.{width_of, height_of, IsPictured}
use Rattle.av_base.specs.declared.shapes.Shape.{Shape}
use Rattle.av_text.specs.declared.arguments.Arg.{Arg}
use Rattle.av_filter.specs.Limits.{IsSmall, after_limits, limits_passed}
use Rattle.av_filter.specs.Meanings.{IsSettled, IsReading, HasOneReading, HasOneOutcome, MakingLaws, ReadingLaws, MeaningLaws}
use Rattle.av_filter.specs.Forms.{EachLaws, BuildLaws, forms_laws, word_laws, only_laws}
use Rattle.av_filter.specs.Options.{flags}
use Rattle.av_filter.specs.OptionExistence.{AreNumbered}
use Rattle.av_filter.specs.Outcomes.{HasOne, ends_one, after_sizes, passed, passed_fault, same_ok}
use Rattle.av_frame.specs.Pictures.{painted_keeps}
use Rattle.av_frame.specs.declared.refusals.ConfigError.TheVariants.{NoMemory}
use Rattle.av_filter.specs.Readings.{complete_law, given_of}
use Rattle.av_filter.specs.WordLaws.{word_below}
use Rattle.filt_expr.specs.Geometry.{on_grid, within, resized, sizes}
use Rattle.filt_expr.specs.Crop.{crop_names, crop_forms, crop_rules, crop_making, grid_across, grid_down, crop_checks, crop_settings, crop_outcome, cropped, crop}
use Rattle.filt_expr.specs.Rounding.{FitsIn}
use Rattle.filt_expr.specs.RoundingLaws.{passed_value, passed_check, after_rounded, after_fit, fitting_size}
use Rattle.filt_expr.specs.Defaults.{says_iw, says_ih, says_middle_x, says_middle_y}
use Rattle.filt_expr.specs.ExprForms.{expr_laws, means_lowest}
use Rattle.filt_expr.specs.Sizes.{place_fits, place_some, resized_pictured, resized_stream}
use Rattle.filt_expr.specs.Values.{sizes_each_lowest}
use Rattle.filt_expr.specs.declared.worth.Role.TheVariants.{Width, Height, Place}
use Rattle.filt_expr.specs.declared.crop.CropOptions.{CropOptions}
use Rattle.filt_expr.specs.declared.crop.CropSettings.{CropSettings}

-- ---- options

pub crop_numbers : AreNumbered 6 crop_names
crop_numbers = word_below 6 crop_names (omega arith, (omega arith, (omega arith, (omega arith, (omega arith, (omega arith, (omega arith, (omega arith, tt))))))))

crop_each : EachLaws crop_forms
crop_each = (
  expr_laws Width (codes "iw") _ (omega arith) says_iw,
  (
    expr_laws Height (codes "ih") _ (omega arith) says_ih,
    (
      expr_laws Place (codes "(iw-ow)/2") _ (omega arith) says_middle_x,
      (
        expr_laws Place (codes "(ih-oh)/2") _ (omega arith) says_middle_y,
        (only_laws (codes "0"), (word_laws flags (codes "0") _ false refl, tt)),
      ),
    ),
  ),
)

crop_build : BuildLaws crop_forms
crop_build = record {
  build = λ v. record { out_w = v.0; out_h = v.1.0; x = v.1.1.0; y = v.1.1.1.0; exact = v.1.1.1.1.1.0 };
  built = λ v. (refl, (refl, (refl, (refl, (refl, (refl, tt))))));
  same = λ a b e i. record { out_w = e.0 i; out_h = e.1.0 i; x = e.1.1.0 i; y = e.1.1.1.0 i; exact = e.1.1.1.1.1.0 i };
}

crop_one_reading : (args : List Arg) → HasOneReading crop_making (IsReading crop_rules args)
crop_one_reading = complete_law crop_making crop_rules (forms_laws crop_numbers crop_each crop_build) (λ options n r h. h) (λ options n. refl)

-- ---- settings

checks_one : (o : CropOptions) (s : Shape) (w h x y : ℤ) → HasOne (crop_checks o s w h x y)
checks_one o s w h x y =
    after_fit (width_of s.props) w _ (λ wide. after_fit (height_of s.props) h _ (λ high.
    let m = fitting_size _ w wide in
    let n = fitting_size _ h high in
    after_sizes w h _ m.0 n.0 m.1 n.1 (after_limits s m.0 n.0 _ (λ small. ends_one _))))

crop_one_outcome : (args : List Arg) → HasOneOutcome crop_making (IsReading crop_rules args)
unfolding crop_outcome
crop_one_outcome args o s reads picture takes =
    let has = given_of crop_rules args o (λ options n r h. h) reads in
    after_rounded o.out_w (sizes s (pos 0) (pos 0)) (grid_across o s) 0 _ (sizes_each_lowest s (pos 0) (pos 0)) (means_lowest ((has 0 (omega arith)).2.0 refl)) (λ w.
    after_rounded o.out_h (sizes s w (pos 0)) (grid_down o s) 1 _ (sizes_each_lowest s w (pos 0)) (means_lowest ((has 1 (omega arith)).2.1.0 refl)) (λ h.
    after_rounded o.x (sizes s w h) 1 2 _ (sizes_each_lowest s w h) (means_lowest ((has 2 (omega arith)).2.1.1.0 refl)) (λ x.
    after_rounded o.y (sizes s w h) 1 3 _ (sizes_each_lowest s w h) (means_lowest ((has 3 (omega arith)).2.1.1.1.0 refl)) (λ y.
    checks_one o s w h x y))))

crop_memory : (o : CropOptions) (s : Shape) → ¬ crop_outcome o s (Err NoMemory)
unfolding crop_outcome
crop_memory o s outcome =
    let w = passed_value outcome in
    let h = passed_value w.2 in
    let x = passed_value h.2 in
    let y = passed_value x.2 in
    let wide = passed_check y.2 in
    let high = passed_check wide.1 in
    let end = (limits_passed high.1.4).1 in
    cc

-- ---- the part that is kept

-- the part lies in the picture, and is one within the limits
pub record IsPart (s : Shape) (t : CropSettings) : Type 0 where
  pub width_some : 0 < t.width
  pub height_some : 0 < t.height
  pub width : t.x + t.width ≤ width_of s.props
  pub height : t.y + t.height ≤ height_of s.props
  pub small : IsSmall s t.width t.height

part_end : (o : CropOptions) (s : Shape) (m n : ℕ) (x y : ℤ) (t : CropSettings) → t ≡ crop_settings o s m n x y → FitsIn (width_of s.props) (pos m) → FitsIn (height_of s.props) (pos n) → IsSmall s m n → IsPart s t
part_end o s m n x y t is wide high small =
    let a = place_some (grid_across o s) (width_of s.props - m) x in
    let b = place_some (grid_down o s) (height_of s.props - n) y in
    let left = place_fits (grid_across o s) (width_of s.props - m) a.0 x a.1 in
    let top = place_fits (grid_down o s) (height_of s.props - n) b.0 y b.1 in
    let x_is : unsigned_abs (on_grid (grid_across o s) (within (pos 0) (pos (width_of s.props - m)) x)) ≡ a.0 = ap unsigned_abs (sym a.1) in
    let y_is : unsigned_abs (on_grid (grid_down o s) (within (pos 0) (pos (height_of s.props - n)) y)) ≡ b.0 = ap unsigned_abs (sym b.1) in
    rw is (record {
      width_some = omega (arith, ints, wide.0);
      height_some = omega (arith, ints, high.0);
      width = rw x_is (omega (arith, ints, wide.1, left));
      height = rw y_is (omega (arith, ints, high.1, top));
      small = small;
    })

part_outcome : (o : CropOptions) (s : Shape) (t : CropSettings) → crop_outcome o s (Ok t) → IsPart s t
unfolding crop_outcome
part_outcome o s t outcome =
    let w = passed outcome in
    let h = passed w.2 in
    let x = passed h.2 in
    let y = passed x.2 in
    let wide = passed y.2 in
    let high = passed wide.1 in
    let small = passed_fault high.1.4 in
    part_end o s high.1.0 high.1.1 x.0 y.0 t (same_ok small.1) (rw high.1.2 at wide.0) (rw high.1.3 at high.0) small.0

pub crop_part : (t : CropSettings) (s : Shape) → IsSettled crop_making s t → IsPart s t
crop_part t s h = part_outcome h.options s t h.settles

pub crop_pictured : (t : CropSettings) (s : Shape) → IsSettled crop_making s t → IsPictured (crop_making.shape t s)
crop_pictured t s h =
    let p = crop_part t s h in
    resized_pictured s t.width t.height h.picture.lawful h.picture.video p.width_some p.height_some p.small

-- ---- the laws

pub crop_making_laws : MakingLaws crop_making
crop_making_laws = record { decided = λ o f. inl tt; no_memory = crop_memory; pictured = crop_pictured; stream = λ t. resized_stream t.width t.height; keeps = λ t x. painted_keeps (cropped t.x t.y) (resized t.width t.height x.shape) x; shaped = λ t x. refl }

pub crop_reading_laws : ReadingLaws crop_making crop_rules
crop_reading_laws = record { one_reading = crop_one_reading; one_outcome = crop_one_outcome }

pub crop_laws : MeaningLaws crop
crop_laws = record { making = crop_making_laws; reading = crop_reading_laws }
