-- What is shown of pad: that its outcome is exactly one, and that the area holds the picture.
use Rattle.std.specs.Prelude.{◌≡◌, ◌≤◌, ◌+◌, ◌/◌, ◌⊎◌, ℕ, ℤ, pos, negsuc, unsigned_abs, ◌+ℤ◌, ◌-ℤ◌, ◌≤ℤ◌, List, Result, Ok, Err, codes, refl}
use Rattle.std.specs.Int.{int_div_euclid}
use Rattle.std.proofs.Common.{inl, inr, ◌∙◌, sym, ap, subst, arith}
use Rattle.std.proofs.lemmas.Int.{ints}
use Rattle.av_base.specs.Shapes.{width_of, height_of, IsPictured}
use Rattle.av_base.specs.declared.shapes.Shape.{Shape}
use Rattle.av_text.specs.declared.arguments.Arg.{Arg}
use Rattle.av_expr.specs.Fractions.{IsLowest}
use Rattle.av_expr.specs.Trees.{Tree, HasLowest}
use Rattle.av_expr.specs.declared.vars.Var.{Var}
use Rattle.av_expr.specs.declared.fraction.Fraction.{Fraction}
use Rattle.av_frame.specs.Grid.{step_across, step_down}
use Rattle.av_filter.specs.Limits.{IsSmall, after_limits, limits_passed}
use Rattle.av_filter.specs.Meanings.{HasOneOutcome, HasOneReading, IsReading, IsSettled, MakingLaws, MeaningLaws, ReadingLaws}
use Rattle.av_filter.specs.Forms.{EachLaws, BuildLaws, forms_laws}
use Rattle.av_filter.specs.OptionExistence.{AreNumbered}
use Rattle.av_filter.specs.Outcomes.{IsOne, HasOne, ends_one, after_value, after_check, after_sizes, passed, passed_fault, same_ok}
use Rattle.av_frame.specs.Pictures.{painted_keeps}
use Rattle.av_filter.specs.Readings.{complete_law, given_of}
use Rattle.av_filter.specs.WordLaws.{word_below}
use Rattle.av_frame.specs.declared.refusals.ConfigError.{ConfigError}
use Rattle.av_frame.specs.declared.refusals.ConfigError.TheVariants.{NoMemory, NoValue}
use Rattle.filt_expr.specs.Defaults.{says_iw, says_ih, says_zero}
use Rattle.filt_expr.specs.Geometry.{on_grid, resized, sizes}
use Rattle.filt_expr.specs.ExprForms.{expr_laws, means_lowest}
use Rattle.filt_expr.specs.Pad.{pad_names, pad_forms, pad_rules, pad_making, padded, or_input, AsksSide, placed, column_at, row_at, EndsIn, AfterSide, AfterRoom, AfterPlace, pad_settings, pad_checks, pad_outcome, pad}
use Rattle.filt_expr.specs.ColourLaws.{colour_decided, colour_one}
use Rattle.filt_expr.specs.Sizes.{natural_some, grid_some, resized_pictured, resized_stream, width_some, height_some}
use Rattle.av_filter.specs.Texts.{at_most_decided}
use Rattle.filt_expr.specs.Values.{sizes_each_lowest}
use Rattle.filt_expr.specs.Worth.{IsWorthless}
use Rattle.filt_expr.specs.declared.worth.Role.TheVariants.{Width, Height, Place}
use Rattle.filt_expr.specs.declared.pad.PadOptions.{PadOptions}
use Rattle.filt_expr.specs.declared.pad.PadSettings.{PadSettings}
use Rattle.filt_expr.specs.RoundingLaws.{passed_value, passed_check, cut_value_one, cut_value_apart, cut_value_some, after_cut}

-- ---- options

pub pad_numbers : AreNumbered 5 pad_names
pad_numbers = word_below 5 pad_names (omega arith, (omega arith, (omega arith, (omega arith, (omega arith, (omega arith, (omega arith, tt)))))))

pad_each : EachLaws pad_forms
pad_each = (
  expr_laws Width (codes "iw") _ (omega arith) says_iw,
  (
    expr_laws Height (codes "ih") _ (omega arith) says_ih,
    (
      expr_laws Place (codes "0") _ (omega arith) says_zero,
      (
        expr_laws Place (codes "0") _ (omega arith) says_zero,
        (record { decided = colour_decided; one = colour_one; default = (record { y = 16; u = 128; v = 128 }, inl refl) }, tt),
      ),
    ),
  ),
)

pad_build : BuildLaws pad_forms
pad_build = record {
  build = λ v. record { width = v.0; height = v.1.0; x = v.1.1.0; y = v.1.1.1.0; color = v.1.1.1.1.0 };
  built = λ v. (refl, (refl, (refl, (refl, (refl, tt)))));
  same = λ a b e i. record { width = e.0 i; height = e.1.0 i; x = e.1.1.0 i; y = e.1.1.1.0 i; color = e.1.1.1.1.0 i };
}

pad_one_reading : (args : List Arg) → HasOneReading pad_making (IsReading pad_rules args)
pad_one_reading = complete_law pad_making pad_rules (forms_laws pad_numbers pad_each pad_build) (λ options n r h. h) (λ options n. refl)

-- ---- what is asked for

-- it asks for one side, or has no value
side_one : (tree : Tree) (variables : Var → Fraction) (input : ℕ) → IsOne (AsksSide tree variables input)
side_one tree variables input a b p q = p.side_is ∙ ap (or_input input) (cut_value_one tree variables p.z q.z p.value q.value) ∙ sym q.side_is

side_apart : (tree : Tree) (variables : Var → Fraction) (input : ℕ) (side : ℤ) → AsksSide tree variables input side → ¬ IsWorthless tree variables
side_apart tree variables input side p = cut_value_apart tree variables p.z p.value

-- it asks for a side, or has no value
side_some : (tree : Tree) (f : Var → Fraction) (input : ℕ) → ((x : Var) → IsLowest (f x)) → HasLowest tree → IsWorthless tree f ⊎ ((side : ℤ) × AsksSide tree f input side)
side_some tree f input each lowest = elim (cut_value_some tree f each lowest) [
  | inl none ↦ inl none
  | inr z ↦ inr (or_input input z.0, record { z = z.0; value = z.1; side_is = refl })
]

-- ---- settings

after_side : {R : Type 0} (tree : Tree) (f : Var → Fraction) (input option : ℕ) (next : ℤ → Result R ConfigError → Type 0)
    → ((x : Var) → IsLowest (f x)) → HasLowest tree → ((z : ℤ) → HasOne (next z)) → HasOne (AfterSide tree f input option next)
after_side tree f input option next all lowest rest =
    after_value (IsWorthless tree f) (Err (NoValue option)) (AsksSide tree f input) next
    (side_some tree f input all lowest) (side_one tree f input) (side_apart tree f input) (λ z p. rest z)

after_room : {R : Type 0} (n : ℕ) (side : ℤ) (next : Result R ConfigError → Type 0) → (pos n ≤ℤ side → HasOne next) → HasOne (AfterRoom n side next)
after_room n side next rest = after_check (pos n ≤ℤ side) _ next (at_most_decided (pos n) side) rest

after_place : {R : Type 0} (n : ℕ) (side place : ℤ) (next : Result R ConfigError → Type 0) → HasOne next → HasOne (AfterPlace n side place next)
after_place n side place next rest = after_check (EndsIn n side place) _ next (at_most_decided (place +ℤ pos n) side) (λ fits. rest)

roomy_size : (n : ℕ) (z : ℤ) → pos n ≤ℤ z → (m : ℕ) × (z ≡ pos m)
roomy_size n z room = natural_some z (omega (arith, ints, room))

checks_one : (o : PadOptions) (s : Shape) (w h x y : ℤ) → HasOne (pad_checks o s w h x y)
checks_one o s w h x y =
    after_room (width_of s.props) w _ (λ wide. after_room (height_of s.props) h _ (λ high.
    after_place (width_of s.props) w (column_at s w x) _ (after_place (height_of s.props) h (row_at s h y) _ (
    let m = roomy_size _ w wide in
    let n = roomy_size _ h high in
    after_sizes w h _ m.0 n.0 m.1 n.1 (after_limits s m.0 n.0 _ (λ small. ends_one _))))))

pad_one_outcome : (args : List Arg) → HasOneOutcome pad_making (IsReading pad_rules args)
unfolding pad_outcome
pad_one_outcome args o s reads picture takes =
    let has = given_of pad_rules args o (λ options n r h. h) reads in
    after_side o.width (sizes s (pos 0) (pos 0)) (width_of s.props) 0 _ (sizes_each_lowest s (pos 0) (pos 0)) (means_lowest ((has 0 (omega arith)).2.0 refl)) (λ w.
    after_side o.height (sizes s w (pos 0)) (height_of s.props) 1 _ (sizes_each_lowest s w (pos 0)) (means_lowest ((has 1 (omega arith)).2.1.0 refl)) (λ h.
    after_cut o.x (sizes s w h) 2 _ (sizes_each_lowest s w h) (means_lowest ((has 2 (omega arith)).2.1.1.0 refl)) (λ x.
    after_cut o.y (sizes s w h) 3 _ (sizes_each_lowest s w h) (means_lowest ((has 3 (omega arith)).2.1.1.1.0 refl)) (λ y.
    checks_one o s w h x y))))

pad_memory : (o : PadOptions) (s : Shape) → ¬ pad_outcome o s (Err NoMemory)
unfolding pad_outcome
pad_memory o s outcome =
    let w = passed_value outcome in
    let h = passed_value w.2 in
    let x = passed_value h.2 in
    let y = passed_value x.2 in
    let wide = passed_check y.2 in
    let high = passed_check wide.1 in
    let column = passed_check high.1 in
    let row = passed_check column.1 in
    let end = (limits_passed row.1.4).1 in
    cc

-- ---- the area

-- a place of the input
placed_some : (step n : ℕ) (side place : ℤ) → pos n ≤ℤ side → (m : ℕ) × (pos m ≡ placed step n side place)
placed_some step n side (pos k) room = grid_some step k
placed_some step n side (negsuc k) room =
    let left = natural_some (side -ℤ pos n) (omega (arith, ints)) in
    let g = grid_some step (left.0 / 2) in
    (g.0, g.1 ∙ ap (λ (z : ℤ). on_grid step (int_div_euclid z (pos 2))) (sym left.1))

-- the picture lies in the area, which is one within the limits
pub record IsArea (s : Shape) (t : PadSettings) : Type 0 where
  pub width : t.x + width_of s.props ≤ t.width
  pub height : t.y + height_of s.props ≤ t.height
  pub small : IsSmall s t.width t.height

area_end : (o : PadOptions) (s : Shape) (w h x y : ℤ) (m n : ℕ) (t : PadSettings) → t ≡ pad_settings o s m n x y → w ≡ pos m → h ≡ pos n → pos (width_of s.props) ≤ℤ w → pos (height_of s.props) ≤ℤ h
    → EndsIn (width_of s.props) w (column_at s w x) → EndsIn (height_of s.props) h (row_at s h y) → IsSmall s m n → IsArea s t
area_end o s w h x y m n t is at over broad tall first second small =
    let wide = rw at at broad in
    let high = rw over at tall in
    let column = rw at at first in
    let row = rw over at second in
    let a = placed_some (step_across s) (width_of s.props) (pos m) x wide in
    let b = placed_some (step_down s) (height_of s.props) (pos n) y high in
    let x_is : unsigned_abs (column_at s (pos m) x) ≡ a.0 = ap unsigned_abs (sym a.1) in
    let y_is : unsigned_abs (row_at s (pos n) y) ≡ b.0 = ap unsigned_abs (sym b.1) in
    let left = subst (EndsIn (width_of s.props) (pos m)) (sym a.1) column in
    let top = subst (EndsIn (height_of s.props) (pos n)) (sym b.1) row in
    rw is (record {
      width = rw x_is (omega (arith, ints, left));
      height = rw y_is (omega (arith, ints, top));
      small = small;
    })

area_outcome : (o : PadOptions) (s : Shape) (t : PadSettings) → pad_outcome o s (Ok t) → IsArea s t
unfolding pad_outcome
area_outcome o s t outcome =
    let w = passed outcome in
    let h = passed w.2 in
    let x = passed h.2 in
    let y = passed x.2 in
    let wide = passed y.2 in
    let high = passed wide.1 in
    let column = passed high.1 in
    let row = passed column.1 in
    let small = passed_fault row.1.4 in
    area_end o s w.0 h.0 x.0 y.0 row.1.0 row.1.1 t (same_ok small.1) row.1.2 row.1.3 wide.0 high.0 column.0 row.0 small.0

pub pad_area : (t : PadSettings) (s : Shape) → IsSettled pad_making s t → IsArea s t
pad_area t s h = area_outcome h.options s t h.settles

pub pad_pictured : (t : PadSettings) (s : Shape) → IsSettled pad_making s t → IsPictured (pad_making.shape t s)
pad_pictured t s h =
    let p = pad_area t s h in
    let w = width_some s.format s.props h.picture.lawful h.picture.video in
    let v = height_some s.format s.props h.picture.lawful h.picture.video in
    let wide = p.width in
    let high = p.height in
    resized_pictured s t.width t.height h.picture.lawful h.picture.video (omega arith) (omega arith) p.small

-- ---- the laws

pub pad_making_laws : MakingLaws pad_making
pad_making_laws = record { decided = λ o f. inl tt; no_memory = pad_memory; pictured = pad_pictured; stream = λ t. resized_stream t.width t.height; keeps = λ t x. painted_keeps (padded t.x t.y t.color) (resized t.width t.height x.shape) x; shaped = λ t x. refl }

pub pad_reading_laws : ReadingLaws pad_making pad_rules
pad_reading_laws = record { one_reading = pad_one_reading; one_outcome = pad_one_outcome }

pub pad_laws : MeaningLaws pad
pad_laws = record { making = pad_making_laws; reading = pad_reading_laws }
