-- Expressions that are rounded: exactly one number, or none; and sides that fit, or not.
use Rattle.std.specs.Prelude.{◌≡◌, ◌⊎◌, ℕ, ℤ, pos, Result, Err, refl}
use Rattle.std.proofs.Common.{inl, inr, ◌∙◌, sym, ap, arith}
use Rattle.std.proofs.lemmas.Int.{ints}
use Rattle.av_expr.specs.Fractions.{IsLowest}
use Rattle.av_expr.specs.Trees.{Tree, HasLowest}
use Rattle.av_expr.specs.declared.vars.Var.{Var}
use Rattle.av_expr.specs.declared.fraction.Fraction.{Fraction}
use Rattle.av_filter.specs.Outcomes.{IsOne, HasOne, after_value, after_check, passed_other}
use Rattle.av_frame.specs.declared.refusals.ConfigError.{ConfigError}
use Rattle.av_frame.specs.declared.refusals.ConfigError.TheVariants.{BadGeometry, NoMemory, NoValue}
use Rattle.filt_expr.specs.Worth.{IsWorthless}
use Rattle.filt_expr.specs.Geometry.{on_grid}
use Rattle.filt_expr.specs.Rounding.{IsRounded, FitsIn, AfterRounded, AfterFit, IsCutValue, AfterCut}
use Rattle.filt_expr.specs.Sizes.{natural_some}
use Rattle.av_filter.specs.Texts.{at_most_decided, both_decided}
use Rattle.av_filter.specs.Decisions.{IsDecided}
use Rattle.filt_expr.specs.Values.{listed_lowest, worth_some, worth_apart, nearest_some, worth_nearest, worth_cut, cut_some}

-- ---- steps are passed where the outcome is out of memory

pub passed_value : {R A B : Type 0} {option : ℕ} → (A × ◌≡◌ {A = Result R ConfigError} (Err NoMemory) (Err (NoValue option))) ⊎ B → B
passed_value outcome = passed_other (λ is. cc) outcome

pub passed_check : {R A B : Type 0} {found allowed : ℤ} → (A × ◌≡◌ {A = Result R ConfigError} (Err NoMemory) (Err (BadGeometry found allowed))) ⊎ B → B
passed_check outcome = passed_other (λ is. cc) outcome

-- ---- outcomes

module _ (tree : Tree) (variables : Var → Fraction) (step : ℕ) (all : (x : Var) → IsLowest (variables x)) (lowest : HasLowest tree) where
  -- an expression is rounded to one number
  rounded_one : IsOne (IsRounded tree variables step)
  rounded_one y z p q =
      p.z_is ∙ ap (on_grid step) (worth_nearest tree variables p.value q.value p.near q.near (listed_lowest variables all) lowest p.worth p.nearest q.worth q.nearest) ∙ sym q.z_is

  -- or has no value
  rounded_known : IsWorthless tree variables ⊎ ((z : ℤ) × IsRounded tree variables step z)
  rounded_known = elim (worth_some tree variables all lowest) [
    | inr none ↦ inl none
    | inl v ↦ (let near = nearest_some v.0 v.2 in inr (on_grid step near.0, record { value = v.0; worth = v.1; near = near.0; nearest = near.1; z_is = refl }))
  ]

pub after_rounded : {R : Type 0} (tree : Tree) (variables : Var → Fraction) (step option : ℕ) (next : ℤ → Result R ConfigError → Type 0)
    → ((x : Var) → IsLowest (variables x)) → HasLowest tree → ((z : ℤ) → HasOne (next z)) → HasOne (AfterRounded tree variables step option next)
after_rounded tree variables step option next all lowest rest =
    after_value (IsWorthless tree variables) (Err (NoValue option)) (IsRounded tree variables step) next
    (rounded_known tree variables step all lowest) (rounded_one tree variables step all lowest) (λ z p. worth_apart tree variables p.value p.worth) (λ z p. rest z)

fits_in_decided : (n : ℕ) (z : ℤ) → IsDecided (FitsIn n z)
fits_in_decided n z = both_decided (at_most_decided (pos 1) z) (at_most_decided z (pos n))

pub after_fit : {R : Type 0} (n : ℕ) (z : ℤ) (next : Result R ConfigError → Type 0) → (FitsIn n z → HasOne next) → HasOne (AfterFit n z next)
after_fit n z next rest = after_check (FitsIn n z) _ next (fits_in_decided n z) rest

pub fitting_size : (n : ℕ) (z : ℤ) → FitsIn n z → (m : ℕ) × (z ≡ pos m)
fitting_size n z fits = natural_some z (omega (arith, ints, fits.0))

-- an expression is cut to one number, or has no value
pub cut_value_one : (tree : Tree) (variables : Var → Fraction) → IsOne (IsCutValue tree variables)
cut_value_one tree variables y z p q = worth_cut tree variables p.value q.value y z p.worth p.cut q.worth q.cut

pub cut_value_apart : (tree : Tree) (variables : Var → Fraction) (z : ℤ) → IsCutValue tree variables z → ¬ IsWorthless tree variables
cut_value_apart tree variables z p = worth_apart tree variables p.value p.worth

-- an expression is cut to a number, or has no value
pub cut_value_some : (tree : Tree) (f : Var → Fraction) → ((x : Var) → IsLowest (f x)) → HasLowest tree → IsWorthless tree f ⊎ ((z : ℤ) × IsCutValue tree f z)
cut_value_some tree f each lowest = elim (worth_some tree f each lowest) [
  | inr none ↦ inl none
  | inl v ↦ (let cut = cut_some v.0 v.2 in inr (cut.0, record { value = v.0; worth = v.1; cut = cut.1 }))
]

pub after_cut : {R : Type 0} (tree : Tree) (f : Var → Fraction) (option : ℕ) (next : ℤ → Result R ConfigError → Type 0)
    → ((x : Var) → IsLowest (f x)) → HasLowest tree → ((z : ℤ) → HasOne (next z)) → HasOne (AfterCut tree f option next)
after_cut tree f option next all lowest rest =
    after_value (IsWorthless tree f) (Err (NoValue option)) (IsCutValue tree f) next
    (cut_value_some tree f all lowest) (cut_value_one tree f) (cut_value_apart tree f) (λ z p. rest z)
