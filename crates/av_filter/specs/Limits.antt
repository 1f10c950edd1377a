-- Shapes of pictures, and their limits.
use Rattle.std.specs.Prelude.{◌≡◌, ◌≢◌, ◌⊎◌, ◌<◌, ◌≤◌, ◌-◌, ◌^◌, ℕ, min, Result, Err, refl}
use Rattle.std.proofs.Common.{arith, inl, inr}
use Rattle.std.proofs.lemmas.Bool.{cases_lt}
use Rattle.av_base.specs.Planes.{picture_bytes_of}
use Rattle.av_base.specs.Shapes.{pixel_format_of}
use Rattle.av_base.specs.declared.shapes.Shape.{Shape}
use Rattle.av_frame.specs.declared.refusals.ConfigError.{ConfigError}
use Rattle.av_frame.specs.declared.refusals.ConfigError.TheVariants.{NoMemory, TooLarge}
use Rattle.av_filter.specs.Outcomes.{IsOne, HasOne, AfterFault, after_fault, passed_others}
use Rattle.av_base.specs.Bounds.{greatest_side, greatest_picture}

-- a picture of this size keeps to the limits
pub record IsSmall (s : Shape) (w h : ℕ) : Type 0 where
  pub width : w ≤ greatest_side
  pub height : h ≤ greatest_side
  pub bytes : picture_bytes_of (pixel_format_of s.format) w h ≤ greatest_picture

-- a limit that it passes: the width, the height, the bytes. Numbers past 64 bits are shown as the greatest of 64 bits
pub data PassesLimit (s : Shape) (w h : ℕ) : ConfigError → Type 0 where
  TooWide : greatest_side < w → PassesLimit s w h (TooLarge (min w (2 ^ 64 - 1)) greatest_side)
  TooHigh : w ≤ greatest_side → greatest_side < h → PassesLimit s w h (TooLarge (min h (2 ^ 64 - 1)) greatest_side)
  TooBig : w ≤ greatest_side → h ≤ greatest_side → greatest_picture < picture_bytes_of (pixel_format_of s.format) w h
      → PassesLimit s w h (TooLarge (picture_bytes_of (pixel_format_of s.format) w h) greatest_picture)

-- the step of an outcome that checks the limits of a size
abbrev pub AfterLimits : {T : Type 0} → Shape → ℕ → ℕ → (Result T ConfigError → Type 0) → Result T ConfigError → Type 0
AfterLimits s w h next = AfterFault (PassesLimit s w h) Err (IsSmall s w h) next

limit_one : {s : Shape} {w h : ℕ} → IsOne (PassesLimit s w h)
limit_one {s} {w} {h} e f p q = by p q
  where
    by : {e f : ConfigError} → PassesLimit s w h e → PassesLimit s w h f → e ≡ f
    by (TooWide a) (TooWide b) = refl
    by (TooWide a) (TooHigh b c) = absurd (omega arith)
    by (TooWide a) (TooBig b c d) = absurd (omega arith)
    by (TooHigh a b) (TooWide c) = absurd (omega arith)
    by (TooHigh a b) (TooHigh c d) = refl
    by (TooHigh a b) (TooBig c d e) = absurd (omega arith)
    by (TooBig a b c) (TooWide d) = absurd (omega arith)
    by (TooBig a b c) (TooHigh d e) = absurd (omega arith)
    by (TooBig a b c) (TooBig d e f) = refl

limit_apart : {s : Shape} {w h : ℕ} {e : ConfigError} → IsSmall s w h → ¬ PassesLimit s w h e
limit_apart small (TooWide a) = let b = small.width in omega arith
limit_apart small (TooHigh a b) = let c = small.height in omega arith
limit_apart small (TooBig a b c) = let d = small.bytes in omega arith

-- out of memory is no limit
limit_memory : {s : Shape} {w h : ℕ} {e : ConfigError} → PassesLimit s w h e → NoMemory ≢ e
limit_memory (TooWide a) is = cc
limit_memory (TooHigh a b) is = cc
limit_memory (TooBig a b c) is = cc

-- so the limits are kept where that is the outcome
pub limits_passed : {T B : Type 0} {s : Shape} {w h : ℕ} → ((e : ConfigError) × PassesLimit s w h e × ◌≡◌ {A = Result T ConfigError} (Err NoMemory) (Err e)) ⊎ B → B
limits_passed outcome = passed_others (λ e past. limit_memory past) outcome

limits_known : (s : Shape) (w h : ℕ) → ((e : ConfigError) × PassesLimit s w h e) ⊎ IsSmall s w h
limits_known s w h = wide (cases_lt greatest_side w)
  where
    big : w ≤ greatest_side → h ≤ greatest_side → (greatest_picture < picture_bytes_of (pixel_format_of s.format) w h) ⊎ (picture_bytes_of (pixel_format_of s.format) w h ≤ greatest_picture)
        → ((e : ConfigError) × PassesLimit s w h e) ⊎ IsSmall s w h
    big a b (inl past) = inl (TooLarge _ _, TooBig a b past)
    big a b (inr fits) = inr (record { width = a; height = b; bytes = fits })

    high : w ≤ greatest_side → (greatest_side < h) ⊎ (h ≤ greatest_side) → ((e : ConfigError) × PassesLimit s w h e) ⊎ IsSmall s w h
    high a (inl past) = inl (TooLarge _ _, TooHigh a past)
    high a (inr fits) = big a fits (cases_lt greatest_picture _)

    wide : (greatest_side < w) ⊎ (w ≤ greatest_side) → ((e : ConfigError) × PassesLimit s w h e) ⊎ IsSmall s w h
    wide (inl past) = inl (TooLarge _ _, TooWide past)
    wide (inr fits) = high fits (cases_lt greatest_side h)

pub after_limits : {T : Type 0} (s : Shape) (w h : ℕ) (next : Result T ConfigError → Type 0) → (IsSmall s w h → HasOne next) → HasOne (AfterLimits s w h next)
after_limits s w h next rest =
    after_fault (PassesLimit s w h) Err (IsSmall s w h) next (limits_known s w h) limit_one (λ small e. limit_apart small) rest
