-- Samples replaced by what an expression makes of them (FFmpeg Filters Documentation, lutyuv; that `val` is the default
-- is this project's own).
use Rattle.std.specs.Prelude.{◌≡◌, ◌<◌, ◌≤◌, ◌+◌, ◌-◌, ◌==◌, ℕ, ℤ, pos, min, max, List, [], ◌∷◌, Result, Ok, Err, codes, length, slice_index, slice_index_or, if◌then◌else◌}
use Rattle.av_base.specs.Shapes.{planes_of, width_of, height_of}
use Rattle.av_base.specs.declared.shapes.Shape.{Shape}
use Rattle.av_expr.specs.Fractions.{zero_fraction, IsCut}
use Rattle.av_expr.specs.Trees.{Tree}
use Rattle.av_expr.specs.declared.vars.Var.{Var}
use Rattle.av_expr.specs.declared.vars.Var.TheVariants.{Val, MinVal, MaxVal, NegVal}
use Rattle.av_expr.specs.declared.fraction.Fraction.{Fraction}
use Rattle.av_frame.specs.Frames.{FrameValue}
use Rattle.av_filter.specs.Forms.{Form, rules_of}
use Rattle.av_filter.specs.Limits.{AfterLimits}
use Rattle.av_filter.specs.Meanings.{OptionRules, is_complete, Making, Meaning}
use Rattle.av_filter.specs.Outcomes.{AfterFault}
use Rattle.av_frame.specs.Pictures.{sample, repainted}
use Rattle.av_frame.specs.declared.refusals.ConfigError.{ConfigError}
use Rattle.av_frame.specs.declared.refusals.ConfigError.TheVariants.{NoValue}
use Rattle.filt_expr.specs.Worth.{expr_form, whole, IsWorth, IsWorthless}
use Rattle.filt_expr.specs.Geometry.{within}
use Rattle.filt_expr.specs.declared.worth.Role.TheVariants.{Sample}
use Rattle.filt_expr.specs.declared.lutyuv.LutyuvOptions.{LutyuvOptions}
use Rattle.filt_expr.specs.declared.lutyuv.LutyuvSettings.{LutyuvSettings}

-- ---- options

abbrev pub lutyuv_names : List (List ℕ × ℕ)
lutyuv_names = (codes "y", 0) ∷ (codes "u", 1) ∷ (codes "v", 2) ∷ (codes "a", 3) ∷ []

-- the expression for a plane
abbrev pub expression_for : LutyuvOptions → ℕ → Tree
expression_for o plane = if plane == 0 then o.y else (if plane == 1 then o.u else (if plane == 2 then o.v else o.a))

abbrev pub lutyuv_forms : List (Form LutyuvOptions)
lutyuv_forms = said (λ o. o.y) ∷ said (λ o. o.u) ∷ said (λ o. o.v) ∷ said (λ o. o.a) ∷ []
  where
    said : (LutyuvOptions → Tree) → Form LutyuvOptions
    said = expr_form Sample (codes "val")

-- ---- the picture

-- out(p, r, c) is what the table of plane p has for in(p, r, c)
abbrev pub looked_up : List (List ℕ) → FrameValue → ℕ → ℕ → ℕ → ℕ
looked_up tables x p r c = slice_index (slice_index_or tables p []) (sample x p r c)

-- ---- the settings

-- the lowest and the highest lawful sample of a plane: 16 to 235 in Y, 16 to 240 in U and V, 0 to 255 in A
abbrev pub least_of : ℕ → ℕ
least_of plane = if plane == 3 then 0 else 16

abbrev pub most_of : ℕ → ℕ
most_of plane = if plane == 0 then 235 else (if plane == 3 then 255 else 240)

-- the sample, brought between them, as far from the one as it is from the other
abbrev pub negated_in : ℕ → ℕ → ℕ
negated_in plane val = (most_of plane + least_of plane) - max (least_of plane) (min val (most_of plane))

-- the values of the variables at a sample
abbrev pub at_sample : ℕ → ℕ → Var → Fraction
at_sample plane val Val = whole (pos val)
at_sample plane val MinVal = whole (pos (least_of plane))
at_sample plane val MaxVal = whole (pos (most_of plane))
at_sample plane val NegVal = whole (pos (negated_in plane val))
at_sample plane val other = zero_fraction

-- the value at a sample, cut, and brought into 0 to 255
pub record IsEntry (tree : Tree) (plane val n : ℕ) : Type 0 where
  pub value : Fraction
  pub worth : IsWorth tree (at_sample plane val) value
  pub z : ℤ
  pub cut : IsCut value z
  pub n_is : pos n ≡ within (pos 0) (pos 255) z

-- the table of all samples from 0 to 255
abbrev pub IsTable : Tree → ℕ → List ℕ → Type 0
IsTable tree plane table = (val : ℕ) → val < 256 → IsEntry tree plane val (slice_index table val)

-- a sample of plane p at which its expression has no value
abbrev pub HasNoEntry : LutyuvOptions → ℕ → Type 0
HasNoEntry o p = (val : ℕ) × (val < 256) × IsWorthless (expression_for o p) (at_sample p val)

-- each sample of plane p has an entry
abbrev pub HasTable : LutyuvOptions → ℕ → Type 0
HasTable o p = (val : ℕ) → val < 256 → (n : ℕ) × IsEntry (expression_for o p) p val n

-- the first plane without a table, of so many planes
pub record IsFirstWithout (o : LutyuvOptions) (planes plane : ℕ) : Type 0 where
  pub is_plane : plane < planes
  pub none : HasNoEntry o plane
  pub before : (p : ℕ) → p < plane → HasTable o p

-- four tables of 256 samples, of which those past the planes hold zeros
pub record IsTables (o : LutyuvOptions) (planes : ℕ) (tables : List (List ℕ)) : Type 0 where
  pub count : length tables ≡ 4
  pub long : (p : ℕ) → p < 4 → length (slice_index_or tables p []) ≡ 256
  pub entries : (p : ℕ) → p < planes → IsTable (expression_for o p) p (slice_index_or tables p [])
  pub blank : (p : ℕ) → planes ≤ p → (val : ℕ) → slice_index (slice_index_or tables p []) val ≡ 0

-- each plane has its table, or there is a first one without, and then the limits are kept
unfoldable pub lutyuv_outcome : LutyuvOptions → Shape → Result LutyuvSettings ConfigError → Type 0
lutyuv_outcome o s =
    AfterFault (IsFirstWithout o (planes_of s)) (λ plane. Err (NoValue plane)) ((p : ℕ) → p < planes_of s → HasTable o p) (
    AfterLimits s (width_of s.props) (height_of s.props) (λ r.
    (tables : List (List ℕ)) × IsTables o (planes_of s) tables × (r ≡ Ok (record { tables = tables }))))

-- ---- the filter

abbrev pub lutyuv_rules : OptionRules LutyuvOptions
lutyuv_rules = rules_of lutyuv_names lutyuv_forms is_complete

abbrev pub lutyuv_making : Making LutyuvOptions LutyuvSettings
lutyuv_making = record {
  takes = λ o f. Unit {0};
  settles = lutyuv_outcome;
  shape = λ t s. s;
  made = λ t. repainted (looked_up t.tables);
}

abbrev pub lutyuv : Meaning
lutyuv = record { Options = LutyuvOptions; Settings = LutyuvSettings; name = codes "lutyuv"; options = lutyuv_rules; making = lutyuv_making }
