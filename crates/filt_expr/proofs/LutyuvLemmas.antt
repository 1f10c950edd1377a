-- Tables of samples.
use Rattle.std.proofs.Common.{◌≡◌, ◌≢◌, ◌<◌, ◌≤◌, ◌+◌, inl, inr, ⊎_elim, ℕ, ℤ, List, [], replicate, get_or, refl, sym, ◌∙◌, ap, arith}
use Rattle.std.specs.Prelude.{pos, unsigned_abs, length, slice_index, slice_index_or, Ok, Err}
use Rattle.std.proofs.Math.ListN.{set}
use Rattle.std.proofs.lemmas.Bool.{cases_eq, cases_lt}
use Rattle.std.proofs.lemmas.List.{get_or-set_same, get_or-set_other, get_or-replicate, get_or_past}
use Rattle.av_base.specs.Shapes.{planes_of, width_of, height_of}
use Rattle.av_base.specs.declared.shapes.Shape.{Shape}
use Rattle.av_expr.specs.Fractions.{IsCut}
use Rattle.av_expr.specs.Trees.{Tree}
use Rattle.av_expr.specs.declared.fraction.Fraction.{Fraction}
use Rattle.av_filter.specs.Limits.{IsSmall, PassesLimit}
use Rattle.av_frame.specs.declared.refusals.ConfigError.{ConfigError}
use Rattle.av_frame.specs.declared.refusals.ConfigError.TheVariants.{NoValue}
use Rattle.filt_expr.specs.Geometry.{within}
use Rattle.filt_expr.specs.Lutyuv.{expression_for, at_sample, IsEntry, IsTable, HasNoEntry, IsTables, lutyuv_outcome}
use Rattle.filt_expr.specs.Sizes.{within_room}
use Rattle.filt_expr.specs.Worth.{IsWorth}
use Rattle.filt_expr.specs.declared.lutyuv.LutyuvOptions.{LutyuvOptions}
use Rattle.filt_expr.specs.declared.lutyuv.LutyuvSettings.{LutyuvSettings}

-- what holds of each other member, and of what is put in place of one, holds of each
pub set_each : {X : Type 0} (P : ℕ → X → Type 0) (xs : List X) (n : ℕ) (x d : X) → n < length xs → P n x → ((i : ℕ) → i ≢ n → P i (get_or xs i d))
    → (i : ℕ) → P i (get_or (set xs n x) i d)
set_each P xs n x d room here others i = elim (cases_eq i n) [
  | inl same ↦ rw (same, get_or-set_same xs n x d room) here
  | inr apart ↦ rw (get_or-set_other xs n i x d apart) (others i apart)
]

-- what holds of each of the first members holds of one more, where it is put
pub set_more : {X : Type 0} (P : ℕ → X → Type 0) (xs : List X) (n : ℕ) (x d : X) → ((i : ℕ) → i < n → P i (get_or xs i d)) → n < length xs → P n x
    → (i : ℕ) → i < n + 1 → P i (get_or (set xs n x) i d)
set_more P xs n x d before room here = set_each (λ i y. i < n + 1 → P i y) xs n x d room (λ _. here) (λ i apart below. before i (omega (arith, apart)))

-- a table of zeros, and four of them
abbrev zeros : List ℕ
zeros = replicate 256 0

abbrev all_zeros : List (List ℕ)
all_zeros = replicate 4 zeros

pub zeros_long : (p : ℕ) → p < 4 → length (get_or all_zeros p []) ≡ 256
zeros_long p low = rw (get_or-replicate 4 p zeros [] low) refl

zeros_at : (val : ℕ) → get_or zeros val 0 ≡ 0
zeros_at val = ⊎_elim (λ (low : val < 256). get_or-replicate 256 val 0 0 low) (λ (past : 256 ≤ val). get_or_past zeros val 0 past) (cases_lt val 256)

pub zeros_blank : (p val : ℕ) → get_or (get_or all_zeros p []) val 0 ≡ 0
zeros_blank p val = ⊎_elim (λ (low : p < 4). rw (get_or-replicate 4 p zeros [] low) (zeros_at val))
    (λ (past : 4 ≤ p). rw (get_or_past all_zeros p [] past) refl) (cases_lt p 4)

pub entry_is : (tree : Tree) (plane val : ℕ) (value : Fraction) (z : ℤ) {n : ℤ} → IsWorth tree (at_sample plane val) value → IsCut value z
    → n ≡ within (pos 0) (pos 255) z → IsEntry tree plane val (unsigned_abs n)
entry_is tree plane val value z {n} worth cut is =
    let m = within_room 255 z in
    let e : n ≡ pos m.0 = is ∙ m.1 in
    record { value = value; worth = worth; z = z; cut = cut; n_is = rw e (sym m.1) }

-- no value at a sample of a plane, where each plane before has its table
pub no_entry : (o : LutyuvOptions) (s : Shape) (plane : ℕ) (tables : List (List ℕ)) (e : ConfigError) → plane < planes_of s
    → ((p : ℕ) → p < plane → IsTable (expression_for o p) p (slice_index_or tables p [])) → e ≡ NoValue plane → HasNoEntry o plane → lutyuv_outcome o s (Err e)
unfolding lutyuv_outcome
no_entry o s plane tables e less before is none =
    inl (plane, record { is_plane = less; none = none; before = λ p low val small. (slice_index (slice_index_or tables p []) val, before p low val small) }, ap Err is)

-- each plane has its table, and a limit is passed
pub past_limit : (o : LutyuvOptions) (s : Shape) (tables : List (List ℕ)) (e : ConfigError) → ((p : ℕ) → p < planes_of s → IsTable (expression_for o p) p (slice_index_or tables p []))
    → PassesLimit s (width_of s.props) (height_of s.props) e → lutyuv_outcome o s (Err e)
unfolding lutyuv_outcome
past_limit o s tables e all large =
    inr (λ p low val small. (slice_index (slice_index_or tables p []) val, all p low val small), inl (e, large, refl))

-- each plane has its table, and the limits are kept
pub tables_are : (o : LutyuvOptions) (s : Shape) (t : LutyuvSettings) → IsTables o (planes_of s) t.tables → IsSmall s (width_of s.props) (height_of s.props) → lutyuv_outcome o s (Ok t)
unfolding lutyuv_outcome
tables_are o s t is small =
    inr (λ p low val less. (slice_index (slice_index_or t.tables p []) val, is.entries p low val less), inr (small, (t.tables, is, refl)))
